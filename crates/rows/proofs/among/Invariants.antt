-- `rows::among` meets its contract. The key is among all the words, if it is among those seen or those left.
use mathlib.Core.Path.{◌≡◌}
use mathlib.Core.Bool.{◌||◌}
use lib.ListN.{drop}
use Rattle.rows.specs.Rows.{is_in}
use Rattle.rows.proofs.among.Given as goal

abbrev pub invariant-loop-word : goal.invariant-loop-word
invariant-loop-word l = is_in l.key l.words ≡ l.r || is_in l.key (drop l.word-index l.words)
