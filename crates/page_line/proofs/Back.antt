-- What is written as a line is read back: one law over the sorts of the fields serves all kinds.
use mathlib.Core.Path.{◌≡◌, refl, ap, ◌∙◌}
use mathlib.Core.List.{List, [], ◌∷◌, ◌++◌, append_assoc}
use mathlib.Core.Bool.{Bool, true, false, ◌&&◌}
use Prim.Native.Nat.{ℕ, suc, ◌+◌, ◌*◌, ◌≤◌, ◌<◌}
use native.Mathlib.Omega.{arith}
use lib.ListN.{length, length-append}
use lib.Dec.{eqb, ltb}
use borrow.Author.Tests.{eq-eqb, ne_eqb, lt-ltb, le-ltb, le-leb, lt-leb, ltb-true}
use Rattle.fixed.specs.Up.{BIAS}
use Rattle.fixed.proofs.Bools.{and_left, and_right}
use Rattle.decimals.specs.Bytes.{TAB, LF, split, same}
use Rattle.decimals.specs.Decimal.{BASE, cap, plain, value}
use Rattle.decimals.specs.Write.{digits, tabbed}
use Rattle.decimals.proofs.Bools.{below}
use Rattle.decimals.proofs.Digits.{plain-digits, value-digits}
use Rattle.decimals.proofs.Clean.{clean, all_clean, clean-append, clean-digits, clean-signed, clean-tabbed, digits-width, plain-signed, signed-width, split-part, split-tabbed, value-signed}
use Rattle.page_line.specs.Fields.{all_plain, values, id_word, step_word, small_word, word, row_of}
use Rattle.std.specs.Prelude.{Some}
use Rattle.book.specs.declared.Kind.{Kind}
use Rattle.page_line.specs.Records.{Line, entry, name, sorts, kind_of, shape, record_of, line_of}
use Rattle.page_line.specs.declared.Sort.{Sort}
use Rattle.page_line.specs.declared.Sort.TheVariants.{Ident, Step, Small}
use Rattle.page_line.specs.Lines.{LINE, ended_in, ended, lines_of, text_lines_in, text_lines}
use Rattle.page_line.specs.Write.{text, texts, line_text}
use Rattle.page_line.proofs.Shapes.{length-values}
use Rattle.page_line.proofs.Lines.{lines_cons}

-- ---- one field
cap-of : (v : ℕ) → v < BASE → cap v ≡ v
unfolding cap
cap-of v h = omega arith

word_number : (v : ℕ) → v < BASE → value (digits v) ≡ BASE + v
word_number v h = value-digits v ∙ ap (λ (n : ℕ). BASE + n) (cap-of v h)

pub word-text : (s : Sort) (v : ℕ) → v < BASE → word s (value (text s v)) ≡ v
unfolding word text id_word step_word small_word
word-text Ident v h =
    rw (word_number v h)
    (below 0 v (λ g. rw (lt-leb (BASE + v) BASE (omega arith), lt-leb (BASE + BASE) (BASE + v) (omega arith)) (omega arith))
    (λ g. rw (le-leb (BASE + v) BASE (omega arith)) (omega arith)))
word-text Step v h = rw (value-signed v h, le-ltb (v + BIAS) BIAS (omega arith), lt-ltb (v + BIAS) (BASE + BIAS) (omega arith)) (omega arith)
word-text Small v h = rw (word_number v h, le-ltb (BASE + v) BASE (omega arith), lt-ltb (BASE + v) (BASE + BASE) (omega arith)) (omega arith)

plain-text : (s : Sort) (v : ℕ) → plain (text s v) ≡ true
unfolding text
plain-text Ident v = plain-digits v
plain-text Step v = plain-signed v
plain-text Small v = plain-digits v

clean-text : (k : ℕ) (s : Sort) (v : ℕ) → k < 45 → clean k (text s v) ≡ true
unfolding text
clean-text k Ident v h = clean-digits k v h
clean-text k Step v h = clean-signed k v h
clean-text k Small v h = clean-digits k v h

width-text : (s : Sort) (v : ℕ) → v < BASE → length (text s v) ≤ 11
unfolding text
width-text Ident v h = omega (arith, digits-width v h)
width-text Step v h = signed-width v h
width-text Small v h = omega (arith, digits-width v h)

-- ---- the fields of a row whose words fit 32 bits
unfoldable pub all_fit : List ℕ → Bool
all_fit [] = true
all_fit (w ∷ ws) = ltb w BASE && all_fit ws

texts-plain : (ss : List Sort) (ws : List ℕ) → all_plain (texts ss ws) ≡ true
unfolding all_plain texts
texts-plain [] ws = refl
texts-plain (s ∷ ss) [] = refl
texts-plain (s ∷ ss) (w ∷ ws) = rw (plain-text s w) (texts-plain ss ws)

texts-clean : (k : ℕ) (ss : List Sort) (ws : List ℕ) → k < 45 → all_clean k (texts ss ws) ≡ true
unfolding all_clean texts
texts-clean k [] ws h = refl
texts-clean k (s ∷ ss) [] h = refl
texts-clean k (s ∷ ss) (w ∷ ws) h = rw (clean-text k s w h) (texts-clean k ss ws h)

texts-length : (ss : List Sort) (ws : List ℕ) → length ws ≡ length ss → length (texts ss ws) ≡ length ss
unfolding texts
texts-length [] ws h = refl
texts-length (s ∷ ss) [] h = absurd (omega arith)
texts-length (s ∷ ss) (w ∷ ws) h = ap suc (texts-length ss ws (omega arith))

texts-row : (ss : List Sort) (ws : List ℕ) → length ws ≡ length ss → all_fit ws ≡ true → row_of ss (values (texts ss ws)) ≡ ws
unfolding texts values row_of all_fit
texts-row [] [] h f = refl
texts-row [] (w ∷ ws) h f = absurd (omega arith)
texts-row (s ∷ ss) [] h f = absurd (omega arith)
texts-row (s ∷ ss) (w ∷ ws) h f =
    rw (word-text s w (ltb-true w BASE (and_left (ltb w BASE) (all_fit ws) f)), texts-row ss ws (omega arith) (and_right (ltb w BASE) (all_fit ws) f))

texts-short : (ss : List Sort) (ws : List ℕ) → all_fit ws ≡ true → length (tabbed (texts ss ws)) ≤ length ss * 12
unfolding texts tabbed all_fit
texts-short [] ws f = omega arith
texts-short (s ∷ ss) [] f = omega arith
texts-short (s ∷ ss) (w ∷ ws) f =
    let a = width-text s w (ltb-true w BASE (and_left (ltb w BASE) (all_fit ws) f)) in
    let b = texts-short ss ws (and_right (ltb w BASE) (all_fit ws) f) in
    simp length-append (omega arith)

-- ---- a line: its word has no separator in it, and it is short enough
name-clean : (s : ℕ) (k : Kind) → s < 45 → clean s (name k) ≡ true
unfolding clean
name-clean s k h = by k
  where
    off : (x : ℕ) → 45 ≤ x → eqb x s ≡ false
    off x g = ne_eqb x s (λ z. omega arith)

    by : (k : Kind) → clean s (name k) ≡ true
    by Kind.Box = rw (off 98 (omega arith), off 111 (omega arith), off 120 (omega arith))
    by Kind.Port = rw (off 112 (omega arith), off 111 (omega arith), off 114 (omega arith), off 116 (omega arith))
    by Kind.Net = rw (off 110 (omega arith), off 101 (omega arith), off 116 (omega arith))
    by Kind.End = rw (off 101 (omega arith), off 110 (omega arith), off 100 (omega arith))

line-short : (k : Kind) → length (name k) + length (sorts k) * 12 < LINE
line-short Kind.Box = omega arith
line-short Kind.Port = omega arith
line-short Kind.Net = omega arith
line-short Kind.End = omega arith

kind-name : (k : Kind) → kind_of (name k) ≡ Some k
unfolding kind_of same
kind-name Kind.Box = refl
kind-name Kind.Port = refl
kind-name Kind.Net = refl
kind-name Kind.End = refl

module _ (k : Kind) (ws : List ℕ) (h : length ws ≡ length (sorts k)) (f : all_fit ws ≡ true) where
  body : List ℕ
  body = name k ++ tabbed (texts (sorts k) ws)

  body-record : shape (kind_of (name k)) (values (texts (sorts k) ws)) ≡ entry k ws
  unfolding shape
  body-record =
      let l : length (values (texts (sorts k) ws)) ≡ length (sorts k) = length-values (texts (sorts k) ws) ∙ texts-length (sorts k) ws h in
      rw (kind-name k, eq-eqb (length (values (texts (sorts k) ws))) (length (sorts k)) l, texts-row (sorts k) ws h f)

  body_ended : ended body ≡ entry k ws
  unfolding ended_in line_of record_of body
  body_ended =
      let l = texts-short (sorts k) ws f in
      let n = length-append (name k) (tabbed (texts (sorts k) ws)) in
      let m = line-short k in
      rw (
        lt-ltb (length (name k ++ tabbed (texts (sorts k) ws))) LINE (omega arith),
        split-tabbed (name k) (texts (sorts k) ws) (name-clean TAB k (omega arith)) (texts-clean TAB (sorts k) ws (omega arith)),
        texts-plain (sorts k) ws,
      )
      body-record

  -- a record's line before any text
  pub line-back : (rest : List ℕ) → text_lines (line_text k ws ++ rest) ≡ entry k ws ∷ text_lines rest
  unfolding text_lines_in line_text body
  line-back rest =
      let j : (name k ++ (tabbed (texts (sorts k) ws) ++ (LF ∷ []))) ++ rest ≡ body ++ (LF ∷ rest) = simp append_assoc in
      let c : clean LF body ≡ true =
      clean-append LF (name k) (tabbed (texts (sorts k) ws)) (name-clean LF k (omega arith)) (clean-tabbed LF (texts (sorts k) ws) (λ z. omega arith) (texts-clean LF (sorts k) ws (omega arith))) in
      ap (λ (t : List ℕ). lines_of (split LF t)) j
      ∙ ap lines_of (split-part LF body rest c)
      ∙ lines_cons body LF rest
      ∙ ap (λ (l : Line). l ∷ lines_of (split LF rest)) body_ended
