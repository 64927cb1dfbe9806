-- `filter_table::put_entries`: what is still to be put, from here on, makes the table that the whole run makes.
use mathlib.Core.Path.{◌≡◌}
use Prim.Native.Nat.{◌-◌}
use Rattle.filter_table.specs.Table.{fill_from}
use Rattle.filter_table.proofs.put_entries.Given as goal

abbrev pub invariant-loop-place : goal.invariant-loop-place
invariant-loop-place l =
    fill_from l.s l.end (l.n - l.place-index) l.j l.place-index l.place-items ≡ fill_from l.s l.end l.n l.at 0 l.initial.place-items
