-- The frame of a Publish, from R and L that are cut off; that it fits once the answer is a size. Assumes nothing.
use mathlib.Core.Path.{◌≡◌, refl, sym, ap, ◌∙◌}
use mathlib.Core.Bool.{Bool, true, false, ◌&&◌, ◌||◌, false≢true}
use mathlib.Core.Option.{Option}
use mathlib.Core.List.{List, ◌∷◌, ◌++◌, append_assoc}
use Prim.Native.Nat.{ℕ, ◌%◌, ◌≤◌}
use native.Mathlib.Omega.{arith}
use lib.Dec.{eqb}
use lib.ListN.{length}
use lib.Seq.{sets}
use Rattle.grammar.specs.Octets.{Each}
use Rattle.grammar.specs.Tables.{publish_row}
use Rattle.reading.specs.Reader.{got}
use Rattle.writing.specs.Handed.{PublishHanded, publish, one, lent, pairs, several, publish_given, adds_up, nothing_given, row_belongs, belongs}
use Rattle.writing.specs.Spell.{short, string, props_bytes}
use Rattle.writing.specs.Size.{most, props_size, rest_is, cap}
use Rattle.writing.specs.Refuse.{Fine}
use Rattle.writing.specs.Write.{first_byte, ident_bytes, frame_bytes, answer_of}
use Rattle.writing.proofs.ForCode.{publish_belongs, publish_frame, cap_small}
use Rattle.writing.proofs.Belong.{belongs_when}
use Rattle.writing.proofs.Sizes.{length_frame}
use Rattle.writing.proofs.Verdict.{answered_when}
use Rattle.publish_write.specs.Laid.{Room}

-- the sixth of several tests that all hold
sixth : (a b c d e x y z w : Bool) → (a && (b && (c && (d && (e && (((x && y) && z) && w)))))) ≡ true → x ≡ true
sixth true true true true true true y z w p = refl
sixth true true true true true false y z w p = absurd (false≢true p)
sixth true true true true false x y z w p = absurd (false≢true p)
sixth true true true false e x y z w p = absurd (false≢true p)
sixth true true false d e x y z w p = absurd (false≢true p)
sixth true false c d e x y z w p = absurd (false≢true p)
sixth false b c d e x y z w p = absurd (false≢true p)

module _ (h : PublishHanded) where
  -- a block in a frame that is not too long is not too long
  length_small : rest_is (publish h) ≤ most → props_size publish_row (publish_given h) ≤ most
  unfolding rest_is
  length_small s = omega arith

  -- 01, row 20: the lengths of user properties add up
  user_adds : belongs (publish h) ≡ true → adds_up h.user ≡ true
  user_adds e =
      sixth (row_belongs h.block (one h.format)) (row_belongs h.block (one h.expiry)) (row_belongs h.block (one h.alias))
      (row_belongs h.block (lent h.response)) (row_belongs h.block (lent h.correlation)) (adds_up h.user) (eqb (length h.user.lengths % 2) 0)
      (h.block || nothing_given (pairs h.user)) (row_belongs h.block (several h.subscriptions) && (row_belongs h.block (lent h.content) && true)) (sym (publish_belongs h) ∙ e)

  -- the bytes behind the first, in two parts: the rows are `rows`
  abbrev behind : ℕ → ℕ → List ℕ → List ℕ
  behind rest props rows = (short rest ++ (string h.topic ++ ident_bytes h.qos h.ident)) ++ (short props ++ (rows ++ h.payload))

  module _ {rest props : ℕ} {rows : List ℕ} (e : rest ≡ cap (rest_is (publish h))) (f : props ≡ cap (props_size publish_row (publish_given h))) (g : rows ≡ props_bytes publish_row (publish_given h)) where
    frame_is : belongs (publish h) ≡ true → rest_is (publish h) ≤ most → frame_bytes (publish h) ≡ first_byte (publish h) ∷ behind rest props rows
    frame_is b l =
        let w : rest ≡ rest_is (publish h) = e ∙ cap_small (rest_is (publish h)) l in
        let v : props ≡ props_size publish_row (publish_given h) = f ∙ cap_small (props_size publish_row (publish_given h)) (length_small l) in
        publish_frame h b
        ∙ rw (
          w,
          v,
          g,
          append_assoc (short (rest_is (publish h))) (string h.topic ++ ident_bytes h.qos h.ident) (short (props_size publish_row (publish_given h)) ++ (props_bytes publish_row (publish_given h) ++ h.payload)),
          append_assoc (string h.topic) (ident_bytes h.qos h.ident) (short (props_size publish_row (publish_given h)) ++ (props_bytes publish_row (publish_given h) ++ h.payload)),
        )

    pub put_frame : (before : List ℕ) {after : List ℕ} → after ≡ sets before 0 (first_byte (publish h) ∷ behind rest props rows)
        → belongs (publish h) ≡ true → rest_is (publish h) ≤ most → after ≡ sets before 0 (frame_bytes (publish h))
    put_frame before s b l = s ∙ ap (sets before 0) (sym (frame_is b l))

    -- where the answer is a size, the frame fits, the lengths add up, and R, L and each identifier can be written
    pub frame_fits : (limit : Option ℕ) (before : List ℕ) (n : ℕ) → got n ≡ answer_of limit (length before) (publish h)
        → (adds_up h.user ≡ true) × Room before 1 (behind rest props rows) × Each Fine h.subscriptions × (props ≤ most) × (rest ≤ most)
    frame_fits limit before n s =
        let a = (answered_when limit (length before) (publish h) n).0 (sym s) in
        let c = a.0.countable.belongs in
        let b = (belongs_when (publish h)).1 c in
        let r = a.0.countable.rest in
        let x = ap length (frame_is b r) in
        let y = length_frame (publish h) c in
        let z = a.0.fits in
        let u = e ∙ cap_small (rest_is (publish h)) r in
        let v = f ∙ cap_small (props_size publish_row (publish_given h)) (length_small r) in
        (user_adds b, record { fits = omega (arith, x, y, z) }, a.0.numbers, omega (arith, v, length_small r), omega (arith, u, r))
