-- What is written over a buffer: one piece behind another, the digits from the last to the first, and bytes copied.
use mathlib.Core.Path.{◌≡◌, refl, sym, ap, ◌∙◌}
use mathlib.Core.List.{List, [], ◌∷◌, ◌++◌, append_assoc}
use Prim.Native.Nat.{ℕ, zero, suc, ◌+◌, ◌-◌, ◌/◌, ◌%◌, ◌≤◌, ◌<◌}
use native.Mathlib.Omega.{arith}
use native.Mathlib.Numerals.{add-one}
use lib.ListN.{length, take, drop, set, length-append, length-drop, length-set, take-append-drop}
use lib.Seq.{set_split, take-set-le, take_at, drop_at, drop-drop, length-take-le}
use borrow.Author.Tests.{lt-ltb, le-ltb}
use borrow.Rule.Slice.PartMut.{put_mid}
use lib.IntN.{pos, negsuc}
use Rattle.fixed.specs.Up.{BIAS, up}
use Rattle.decimals.specs.Bytes.{TAB}
use Rattle.decimals.specs.Decimal.{MINUS}
use Rattle.decimals.specs.Write.{digits, signed, field, tabbed, written, Put}
use Rattle.decimals.proofs.Digits.{digits-one, digits_more}

pub length-written : (buf : List ℕ) (at : ℕ) (ds : List ℕ) → at + length ds ≤ length buf → length (written buf at ds) ≡ length buf
unfolding written
length-written buf at ds h =
    simp (length-append, length-drop, length-take-le at buf (omega arith)) (omega arith)

-- one piece behind another
pub more : (buf : List ℕ) (at : ℕ) (ds es : List ℕ) → at + length ds + length es ≤ length buf
    → written (written buf at ds) (at + length ds) es ≡ written buf at (ds ++ es)
unfolding written
more buf at ds es h =
    let la : length (take at buf) ≡ at = length-take-le at buf (omega arith) in
    let lf : length (take at buf ++ ds) ≡ at + length ds = length-append (take at buf) ds ∙ ap (λ (n : ℕ). n + length ds) la in
    let front : take (at + length ds) (take at buf ++ (ds ++ drop (at + length ds) buf)) ≡ take at buf ++ ds =
    ap (take (at + length ds)) (sym (append_assoc (take at buf) ds (drop (at + length ds) buf))) ∙ take_at (take at buf ++ ds) (drop (at + length ds) buf) (at + length ds) lf in
    let back : drop (at + length ds) (take at buf ++ (ds ++ drop (at + length ds) buf)) ≡ drop (at + length ds) buf =
    ap (drop (at + length ds)) (sym (append_assoc (take at buf) ds (drop (at + length ds) buf))) ∙ drop_at (take at buf ++ ds) (drop (at + length ds) buf) (at + length ds) lf in
    let behind : drop (at + length ds + length es) (take at buf ++ (ds ++ drop (at + length ds) buf)) ≡ drop (at + length (ds ++ es)) buf =
    sym (drop-drop (length es) (at + length ds) (take at buf ++ (ds ++ drop (at + length ds) buf))) ∙ ap (drop (length es)) back
    ∙ drop-drop (length es) (at + length ds) buf ∙ ap (λ (n : ℕ). drop n buf) (ends at ds es) in
    rw (front, behind, append_assoc (take at buf) ds (es ++ drop (at + length (ds ++ es)) buf), append_assoc ds es (drop (at + length (ds ++ es)) buf))
  where
    ends : (at : ℕ) (ds es : List ℕ) → at + length ds + length es ≡ at + length (ds ++ es)
    ends at ds es = rw (length-append ds es) (omega arith)

pub one : (buf : List ℕ) (at x : ℕ) → at < length buf → set buf at x ≡ written buf at (x ∷ [])
unfolding written
one buf at x h = rw (set_split buf at x h, ← add-one at)

-- a digit before the last ones: it lies behind what is still to be written
pub before : (buf : List ℕ) (at : ℕ) (ds : List ℕ) (e x : ℕ) → e ≡ at + length ds → e < length buf → written (set buf e x) at ds ≡ written buf at (ds ++ (x ∷ []))
unfolding written
before buf at ds e x he h =
    let l : at + length (ds ++ (x ∷ [])) ≡ suc e = rw (length-append ds (x ∷ [])) (omega arith) in
    let b : drop e (set buf e x) ≡ x ∷ drop (suc e) buf = behind buf e x h in
    rw (l, ← he, take-set-le at buf e x (omega arith), b, append_assoc ds (x ∷ []) (drop (suc e) buf))
  where
    behind : (buf : List ℕ) (e x : ℕ) → e < length buf → drop e (set buf e x) ≡ x ∷ drop (suc e) buf
    behind [] e x h = absurd (omega arith)
    behind (b ∷ bs) zero x h = refl
    behind (b ∷ bs) (suc e) x h = behind bs e x (omega arith)

-- writers, one and one after another
pub put_one : (buf : List ℕ) (at x : ℕ) → at < length buf → Put buf at (x ∷ []) (set buf at x) (at + 1)
put_one buf at x h = record { bytes = one buf at x h; next = refl }

pub put_then : (buf w w' ds es : List ℕ) (at e e' : ℕ) → Put buf at ds w e → Put w e es w' e' → at + length ds + length es ≤ length buf → Put buf at (ds ++ es) w' e'
put_then buf w w' ds es at e e' p q h =
    record {
      bytes = q.bytes ∙ rw (p.bytes, p.next) (more buf at ds es h);
      next = rw (length-append ds es) (omega (arith, p.next, q.next));
    }

-- the turns of the writer of digits, from the last one to the first
pub width-on : (w : ℕ) → 10 ≤ w → length (digits w) ≡ length (digits (w / 10)) + 1
width-on w h = ap length (digits_more w h) ∙ length-append (digits (w / 10)) ((48 + w % 10) ∷ [])

pub width-end : (w : ℕ) → w < 10 → length (digits w) ≡ 1
width-end w h = ap length (digits-one w h)

-- what the loop keeps: i is the place behind the digits of w, which are still to be written
pub record Back (start buf : List ℕ) (at i w v : ℕ) : Type 0 where
  pub place : i ≡ at + length (digits w)
  pub most : i ≤ at + length (digits v)
  pub fits : at + length (digits v) ≤ length buf
  pub long : length buf ≡ length start
  pub whole : written buf at (digits w) ≡ written start at (digits v)

pub back_on : (start buf : List ℕ) (at i w v : ℕ) → Back start buf at i w v → 10 ≤ w
    → Back start (set buf (i - 1) (48 + w % 10)) at (i - 1) (w / 10) v
back_on start buf at i w v b h =
    let l = width-on w h in
    let e : i - 1 ≡ at + length (digits (w / 10)) = omega (arith, b.place) in
    record {
      place = e;
      most = omega (arith, b.most);
      fits = rw length-set b.fits;
      long = rw length-set b.long;
      whole =
          before buf at (digits (w / 10)) (i - 1) (48 + w % 10) e (omega (arith, b.place, b.most, b.fits))
          ∙ ap (written buf at) (sym (digits_more w h)) ∙ b.whole;
    }

pub back_end : (start buf : List ℕ) (at i w v e : ℕ) → Back start buf at i w v → w < 10 → e ≡ at + length (digits v)
    → Put start at (digits v) (set buf at (48 + w)) e
back_end start buf at i w v e b h he =
    let l = width-end w h in
    record {
      bytes = one buf at (48 + w) (omega (arith, b.place, b.most, b.fits)) ∙ ap (written buf at) (sym (digits-one w h)) ∙ b.whole;
      next = he;
    }

-- coordinates
pub signed_low : (u : ℕ) → u < BIAS → signed u ≡ MINUS ∷ digits (BIAS - u)
unfolding signed
signed_low u h = rw (lt-ltb u BIAS h)

pub signed_high : (u : ℕ) → BIAS ≤ u → signed u ≡ digits (u - BIAS)
unfolding signed
signed_high u h = rw (le-ltb u BIAS h)

-- the coordinate of a signed number, as `up` counts it
pub signed-pos : (n : ℕ) → signed (up (pos n)) ≡ digits n
unfolding up
signed-pos n = let e : BIAS + n - BIAS ≡ n = omega arith in signed_high (BIAS + n) (omega arith) ∙ ap digits e

pub signed-neg : (n : ℕ) → suc n ≤ BIAS → signed (up (negsuc n)) ≡ MINUS ∷ digits (suc n)
unfolding up
signed-neg n h =
    let e : BIAS - (BIAS - suc n) ≡ suc n = omega arith in
    signed_low (BIAS - suc n) (omega arith) ∙ ap (λ (k : ℕ). MINUS ∷ digits k) e

pub step-low : (buf w : List ℕ) (at u e : ℕ) → u < BIAS → at + length (signed u) ≤ length buf → Put (set buf at MINUS) (at + 1) (digits (BIAS - u)) w e
    → Put buf at (signed u) w e
step-low buf w at u e h hf p =
    let s = signed_low u h in
    let f : at + suc (length (digits (BIAS - u))) ≤ length buf = rw s at hf in
    rw s (put_then buf (set buf at MINUS) w (MINUS ∷ []) (digits (BIAS - u)) at (at + 1) e (put_one buf at MINUS (omega arith)) p (omega arith))

-- a field behind a tab
pub field_put : (buf w ds : List ℕ) (at e : ℕ) → at + length (field ds) ≤ length buf → Put (set buf at TAB) (at + 1) ds w e → Put buf at (field ds) w e
field_put buf w ds at e h p = put_then buf (set buf at TAB) w (TAB ∷ []) ds at (at + 1) e (put_one buf at TAB (omega arith)) p (omega arith)

-- bytes copied over a part
pub put_part : (buf s new : List ℕ) (at n : ℕ) → new ≡ s → n ≡ length s → Put buf at s (put_mid at n buf new) (at + length s)
unfolding written
put_part buf s new at n e h =
    record {
      bytes = rw (e, h) (ap (λ t. take at buf ++ (s ++ t)) (drop-drop (length s) at buf));
      next = refl;
    }

pub written_none : (buf : List ℕ) (at : ℕ) → at ≤ length buf → buf ≡ written buf at []
unfolding written
written_none buf at h = let z : at + 0 ≡ at = omega arith in rw z (sym (take-append-drop at buf))

-- fields behind fields
pub tabbed-append : (fs gs : List (List ℕ)) → tabbed (fs ++ gs) ≡ tabbed fs ++ tabbed gs
unfolding tabbed
tabbed-append [] gs = refl
tabbed-append (f ∷ fs) gs = rw (tabbed-append fs gs, append_assoc f (tabbed fs) (tabbed gs))

pub ruleset widths = (width-on, width-end)
