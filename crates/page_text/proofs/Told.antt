-- The refusal's words, and the three ways in which reading ends.
use mathlib.Core.Path.{◌≡◌, refl, sym, ap, ◌∙◌}
use mathlib.Core.List.{List}
use mathlib.Core.Bool.{true, false}
use mathlib.Core.Logic.{◌⊎◌, inl, inr}
use Prim.Native.Nat.{ℕ, zero, suc, ◌-◌, ◌≤◌, ◌<◌}
use native.Mathlib.Omega.{arith}
use lib.ListN.{length, set, replicate}
use lib.Dec.{leb}
use borrow.Author.Tests.{le-leb, lt-leb}
use Rattle.std.specs.Prelude.{Result, Ok, Err}
use Rattle.decimals.proofs.Bools.{and-false}
use Rattle.desk.specs.Sizes.{DESK}
use Rattle.book.specs.Book.{no_lists}
use Rattle.page_line.specs.Lines.{text_lines}
use Rattle.page_text.specs.Reading.{Reading, read_in, read_text}
use Rattle.page_text.specs.Words.{REFUSAL, told, is_lent, read_number, read_refusal, read_words, stop_of, text_words}
use Rattle.page_text.specs.declared.Stop.{Stop}
use Rattle.page_text.proofs.First.{Done, feed-number}

-- ---- two stores over zeros, and none
store : (line inner n : ℕ) → REFUSAL ≤ n → set (set (replicate n 0) 0 line) 1 inner ≡ told line inner n
unfolding told
store line inner zero h = absurd (omega arith)
store line inner (suc zero) h = absurd (omega arith)
store line inner (suc (suc n)) h = let e : suc (suc n) - REFUSAL ≡ n = omega arith in rw e

pub told_none : (n : ℕ) → REFUSAL ≤ n → told 0 0 n ≡ replicate n 0
unfolding told
told_none zero h = absurd (omega arith)
told_none (suc zero) h = absurd (omega arith)
told_none (suc (suc n)) h = let e : suc (suc n) - REFUSAL ≡ n = omega arith in rw e

-- ---- where a reading stops
ok-err : {A : Type 0} (s : Stop) → ◌≡◌ {A = Result (Unit {0}) Stop} (Ok tt) (Err s) → A
ok-err s e = let z : ◌≡◌ {A = ℕ} 0 1 = cc in absurd (omega arith)

err-err : (s t : Stop) → ◌≡◌ {A = Result (Unit {0}) Stop} (Err s) (Err t) → s ≡ t
err-err s t e = cc

module _ (r : Reading) where
  gone : Done r ⊎ (r.number ≡ 16) → Ok tt ≡ stop_of r → Done r
  unfolding stop_of
  gone (inl p) e = p
  gone (inr p) e = ok-err _ (rw p at e)

  stopped : Done r ⊎ (r.number ≡ 16) → (s : Stop) → Err s ≡ stop_of r → (r.number ≡ 16) × (s ≡ record { line = r.line; inner = r.inner })
  unfolding stop_of
  stopped (inl p) s e = ok-err s (sym (rw p.0 at e))
  stopped (inr p) s e = (p, err-err s _ (rw p at e))

-- ---- how reading ends
pub both-lent : (ws out : List ℕ) → DESK ≤ length ws → REFUSAL ≤ length out → is_lent ws out ≡ true
unfolding is_lent
both-lent ws out hd hr = rw (le-leb DESK (length ws) hd, le-leb REFUSAL (length out) hr)

module _ (text ws out : List ℕ) where
  none_lent : is_lent ws out ≡ false → (1 ≡ read_number text ws out) × (ws ≡ read_words text ws out) × (out ≡ read_refusal text ws out)
  unfolding read_number read_words read_refusal
  none_lent e = rw e (refl, refl, refl)

  pub short-desk : length ws < DESK → (1 ≡ read_number text ws out) × (ws ≡ read_words text ws out) × (out ≡ read_refusal text ws out)
  unfolding is_lent
  short-desk h = none_lent (rw (lt-leb DESK (length ws) h))

  pub short-out : length out < REFUSAL → (1 ≡ read_number text ws out) × (ws ≡ read_words text ws out) × (out ≡ read_refusal text ws out)
  unfolding is_lent
  short-out h = none_lent (rw (lt-leb REFUSAL (length out) h) (and-false (leb DESK (length ws))))

  module _ (hd : DESK ≤ length ws) (hr : REFUSAL ≤ length out) (ws' : List ℕ) (ew : ws' ≡ text_words text ws) where
    ends : (n : ℕ) (out' : List ℕ) → n ≡ (read_text text).number → out' ≡ told (read_text text).line (read_text text).inner (length out)
        → (n ≡ read_number text ws out) × (ws' ≡ read_words text ws out) × (out' ≡ read_refusal text ws out)
    unfolding read_number read_words read_refusal
    ends n out' e eo = rw (both-lent ws out hd hr) (e, ew, eo)

    pub ends-0 : Ok tt ≡ stop_of (read_text text) → (out' : List ℕ) → out' ≡ replicate (length out) 0
        → (0 ≡ read_number text ws out) × (ws' ≡ read_words text ws out) × (out' ≡ read_refusal text ws out)
    unfolding read_in
    ends-0 e out' eo =
        let d = gone (read_text text) (feed-number 0 no_lists (text_lines text)) e in
        ends 0 out' (sym d.0) (rw (d.1, d.2) (eo ∙ sym (told_none (length out) hr)))

    pub ends-16 : (s : Stop) → Err s ≡ stop_of (read_text text) → (out' : List ℕ) → out' ≡ set (set (replicate (length out) 0) 0 s.line) 1 s.inner
        → (16 ≡ read_number text ws out) × (ws' ≡ read_words text ws out) × (out' ≡ read_refusal text ws out)
    unfolding read_in
    ends-16 s e out' eo =
        let d = stopped (read_text text) (feed-number 0 no_lists (text_lines text)) s e in
        ends 16 out' (sym d.0) (eo ∙ store s.line s.inner (length out) hr ∙ ap (λ (t : Stop). told t.line t.inner (length out)) d.1)
