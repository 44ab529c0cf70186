-- A text as lines: the line at a place and the lines behind it, also where the LF is missing.
use mathlib.Core.Path.{◌≡◌, refl, ap, ◌∙◌}
use mathlib.Core.List.{List, [], ◌∷◌}
use mathlib.Core.Bool.{Bool, true, false}
use Prim.Native.Nat.{ℕ, suc, ◌+◌, ◌-◌, ◌≤◌, ◌<◌}
use native.Mathlib.Omega.{arith}
use lib.ListN.{length, take, drop, length-drop, drop_of_length-le}
use lib.Seq.{drop-drop}
use lib.Dec.{ltb}
use borrow.Author.Tests.{eq-eqb, ne_eqb, lt-ltb, le-ltb, ltb-true, ltb-false}
use Rattle.decimals.specs.Bytes.{LF, split, place}
use Rattle.decimals.specs.Decimal.{is_empty}
use Rattle.decimals.proofs.Split.{find_inside, split-cut, split-last}
use Rattle.page_line.specs.Records.{Line, malformed, line_of}
use Rattle.page_line.specs.Lines.{LINE, ended_in, ended, lines_in, lines_of, line_at}
use Rattle.page_line.proofs.Shapes.{head-split}

-- the three answers for a line
pub at_none : (text : List ℕ) (at e : ℕ) → e ≡ length text → malformed ≡ line_at text at e
unfolding line_at
at_none text at e h = rw (eq-eqb e (length text) h)

pub at-line : (text : List ℕ) (at e k : ℕ) → (e ≡ length text → ⊥) → length (take (e - at) (drop at text)) ≡ k → k < LINE
    → line_of (take (e - at) (drop at text)) ≡ line_at text at e
unfolding line_at ended_in
at-line text at e k h hk h' = rw (ne_eqb e (length text) h, hk, lt-ltb k LINE h')

pub at_long : (text : List ℕ) (at e k : ℕ) → (e ≡ length text → ⊥) → length (take (e - at) (drop at text)) ≡ k → LINE ≤ k → malformed ≡ line_at text at e
unfolding line_at ended_in
at_long text at e k h hk h' = rw (ne_eqb e (length text) h, hk, le-ltb k LINE h')

pub lines_cons : (p : List ℕ) (s : ℕ) (xs : List ℕ) → lines_of (p ∷ split s xs) ≡ ended p ∷ lines_of (split s xs)
unfolding lines_in
lines_cons p s xs = rw (head-split s xs)

not-empty : (xs : List ℕ) → 0 < length xs → is_empty xs ≡ false
unfolding is_empty
not-empty [] h = absurd (omega arith)
not-empty (x ∷ xs) h = refl

lines-last : (text : List ℕ) (at e : ℕ) → e ≡ length text → split LF (drop at text) ≡ drop at text ∷ [] → 0 < length (drop at text)
    → lines_of (split LF (drop at text)) ≡ line_at text at e ∷ lines_of (split LF (drop (e + 1) text))
unfolding lines_in line_at split is_empty
lines-last text at e g s h =
    let d : drop (e + 1) text ≡ [] = drop_of_length-le text {i = e + 1} (omega arith) in
    rw (s, d, eq-eqb e (length text) g, not-empty (drop at text) h)

line-ended : (text : List ℕ) (at e : ℕ) → e < length text → ended (take (e - at) (drop at text)) ≡ line_at text at e
unfolding line_at
line-ended text at e g = rw (ne_eqb e (length text) (λ x. omega arith))

module _ (text : List ℕ) (at e : ℕ) (found : e ≡ at + place LF (drop at text)) (h : at < length text) where
  pub line-end : e ≤ length text
  line-end = find_inside text at e LF found (omega arith)

  -- the lines from a place on: one, and those behind it
  pub line_first : lines_of (split LF (drop at text)) ≡ line_at text at e ∷ lines_of (split LF (drop (e + 1) text))
  line_first = go (ltb e (length text)) refl
    where
      last : length text ≤ e → lines_of (split LF (drop at text)) ≡ line_at text at e ∷ lines_of (split LF (drop (e + 1) text))
      last g = lines-last text at e (omega (arith, line-end)) (split-last LF (drop at text) (omega (arith, length-drop at text))) (omega (arith, length-drop at text))

      more : e < length text → lines_of (split LF (drop at text)) ≡ line_at text at e ∷ lines_of (split LF (drop (e + 1) text))
      more g =
          let l : place LF (drop at text) < length (drop at text) = omega (arith, length-drop at text) in
          let j : at + suc (place LF (drop at text)) ≡ e + 1 = omega arith in
          let k : place LF (drop at text) ≡ e - at = omega arith in
          ap lines_of (split-cut LF (drop at text) l)
          ∙ rw (drop-drop (suc (place LF (drop at text))) at text, j, k)
          (lines_cons (take (e - at) (drop at text)) LF (drop (e + 1) text) ∙ ap (λ (y : Line). y ∷ lines_of (split LF (drop (e + 1) text))) (line-ended text at e g))

      go : (b : Bool) → ltb e (length text) ≡ b → lines_of (split LF (drop at text)) ≡ line_at text at e ∷ lines_of (split LF (drop (e + 1) text))
      go true g = more (ltb-true e (length text) g)
      go false g = last (ltb-false e (length text) g)
