-- The rows before i are done.
use Rattle.std.proofs.Common.{◌≡◌, ◌-◌, length, take}
use Rattle.fixed.specs.Up.{ups}
use Rattle.corridors.specs.Grid.{seen, all_runs}
use Rattle.corridors.specs.Lent.{table}
use Rattle.corridors.proofs.Grid.all_runs.Given as goal

abbrev pub invariant-loop-i : goal.invariant-loop-i
invariant-loop-i l = (length l.marks ≡ length l.self.xs.now - 1) × (take l.i (table l.rows) ≡ all_runs (seen l.self.along l.self.boxes.now) (ups l.self.xs.now) (ups l.self.ys.now) 0 l.i)
