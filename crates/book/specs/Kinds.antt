-- A kind as a word, as an undo entry has it: 0 to 3, in 01's order.
use Rattle.std.specs.Prelude.{◌≡◌, ℕ, ◌<◌, Result, MatchResult}
use Rattle.book.specs.declared.Kind.{Kind}
use Rattle.book.specs.declared.UnknownKind.{UnknownKind}

abbrev pub tag : Kind → ℕ
tag Kind.Box = 0
tag Kind.Port = 1
tag Kind.Net = 2
tag Kind.End = 3

-- the result is the kind with this word, or an error with a word that no kind has
abbrev pub Decodes : ℕ → Result Kind UnknownKind → Type 0
Decodes word r = MatchResult r (λ kind. tag kind ≡ word) (λ e. (e.0 ≡ word) × (3 < word))
