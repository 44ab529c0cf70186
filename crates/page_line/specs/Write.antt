-- 01, 'Desk and page text': a row of words as the bytes of a line.
use Rattle.std.specs.Prelude.{ℕ, List, [], ◌∷◌, ◌++◌}
use Rattle.decimals.specs.Bytes.{LF}
use Rattle.decimals.specs.Write.{digits, signed, tabbed}
use Rattle.book.specs.declared.Kind.{Kind}
use Rattle.page_line.specs.Records.{name, sorts}
use Rattle.page_line.specs.declared.Sort.{Sort}
use Rattle.page_line.specs.declared.Sort.TheVariants.{Ident, Step, Small}

-- a word as a field
unfoldable pub text : Sort → ℕ → List ℕ
text Ident v = digits v
text Step u = signed u
text Small v = digits v

unfoldable pub texts : List Sort → List ℕ → List (List ℕ)
texts [] ws = []
texts (s ∷ ss) [] = []
texts (s ∷ ss) (w ∷ ws) = text s w ∷ texts ss ws

-- a record's line: its word, its fields each behind a tab, its LF
unfoldable pub line_text : Kind → List ℕ → List ℕ
line_text k r = name k ++ (tabbed (texts (sorts k) r) ++ (LF ∷ []))
