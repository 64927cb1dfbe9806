-- Reading back by places: the record that is read, looked up in the stream, is what the bytes say, and its n-th items are the n-th of what
-- was handed over. Assumes nothing.
use mathlib.Core.Path.{◌≡◌, ap, ◌∙◌}
use mathlib.Core.Option.{Option, none}
use mathlib.Core.List.{List, ◌++◌}
use Prim.Native.Nat.{ℕ}
use lib.ListN.{length}
use Rattle.reading.specs.Refusal.{accepted}
use Rattle.reading.specs.Reader.{got}
use Rattle.reading.specs.Place.{Placed, read_placed_of, say_answer, Items}
use Rattle.reading.proofs.Places.{placed_says, placed_of}
use Rattle.reading.proofs.Items.{say_items}
use Rattle.writing.specs.Handed.{Handed}
use Rattle.writing.specs.Write.{write_of}
use Rattle.writing.specs.Meant.{meant, said, Typed, Plain}
use Rattle.writing.proofs.Demand.{reads_said, reads_back}

module _ (limit : Option ℕ) (room : ℕ) (h : Handed) (b : List ℕ) (t : Typed h) (e : write_of limit room h ≡ got b) (r : List ℕ) where
  -- the answer with places says the record, where that is what the bytes say
  pub placed_back : Plain h → say_answer (b ++ r) (read_placed_of none (b ++ r)) ≡ got (accepted (meant h) (length b))
  placed_back p = placed_says none (b ++ r) ∙ ap got (reads_back limit room h b t p e r)

  -- item by item: the n-th user property, identifier and filter at the places that are read, whatever follows; and taken is the size
  pub items_back : (v : Placed) × (read_placed_of none (b ++ r) ≡ accepted v (length b)) × Items (b ++ r) v (said h)
  items_back = let (v, i, j) = placed_of none (b ++ r) (said h) (length b) (reads_said limit room h b t e r) in (v, i, say_items (b ++ r) v (said h) j)
