-- The number of a field of the fixed lists, from its word, which is BASE above it.
use Rattle.std.specs.Prelude.{ℕ, ◌+◌, ◌-◌, ◌%◌, ℤ, Option, Some, None, cond, leb}
use Rattle.decimals.specs.Decimal.{BASE}
use Rattle.fixed.specs.Up.{BIAS, down}

-- one that is not negative; for another, and for no number, the greatest word
abbrev pub unsigned : Option ℕ → ℕ
unsigned None = 4294967295
unsigned (Some w) = cond (leb BASE w) ((w - BASE) % BASE) 4294967295

-- a coordinate; 0 for no number
abbrev pub signed : Option ℕ → ℤ
signed None = down BIAS
signed (Some w) = down ((w % BASE + BIAS) % BASE)
