-- The buckets into which places fall.
use Rattle.std.specs.Prelude.{ℕ, ◌+◌, ◌*◌, ◌/◌, ◌%◌}

abbrev pub BUCKETS : ℕ
BUCKETS = 2048

unfoldable pub bucket : ℕ → ℕ → ℕ
bucket x y = (x * 40503 + y * 57149) / 1024 % BUCKETS
