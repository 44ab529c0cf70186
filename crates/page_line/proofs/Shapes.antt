-- Fields and records: the loop over fields by what is left, and a line as its word and its other fields.
use mathlib.Core.Path.{◌≡◌, refl, sym, ap, ◌∙◌}
use mathlib.Core.List.{List, [], ◌∷◌, ◌++◌, append_assoc, append-nil}
use mathlib.Core.Bool.{Bool, true, false, cond, ◌&&◌}
use Prim.Native.Nat.{ℕ, suc, ◌+◌, ◌-◌, ◌≤◌, ◌<◌}
use lib.Dec.{eqb, leb, ltb}
use native.Mathlib.Omega.{arith}
use native.Mathlib.Numerals.{add-one}
use lib.ListN.{length, get_or, take, drop, set, length-drop, drop_of_length-le}
use lib.Seq.{take_all, drop-cons, drop-drop, take-suc-set}
use Rattle.std.specs.List.{slice_split, onto_first}
use Rattle.std.specs.Fn.{CalledAt}
use Rattle.std.specs.Slice.Iter.{split_rest, split_done, split_callee, split_steps}
use Rattle.std.specs.declared.slice.Split.{Split}
use Rattle.std.proofs.lemmas.Iterator.{YieldsList}
use Rattle.std.proofs.lemmas.Iterator.Splits.{YieldsList-from_slice_split}
use denote.Param.Members.{Mut}
use denote.Ref.{Bor}
use borrow.Author.Tests.{eq-eqb, ltb-true, ltb-false, leb-false, le-leb, lt-leb, ne_eqb}
use Rattle.decimals.specs.Bytes.{TAB, onto, split, place}
use Rattle.decimals.specs.Decimal.{number_of}
use Rattle.book.specs.declared.Kind.{Kind}
use Rattle.book.specs.Book.{width}
use Rattle.decimals.specs.Write.{written}
use Rattle.decimals.proofs.Written.{written_none}
use Rattle.page_line.specs.Fields.{MOST, all_plain, values, count_of, row_of}
use Rattle.page_line.specs.Records.{ROW, Line, malformed, Told, kind_in, row_in, kind_of, line_of, record_of, shape, sorts}
use Rattle.page_line.proofs.Rows.{sorts-width, sorts-few}
use Rattle.std.specs.Prelude.{Option, Some, None}
use Rattle.decimals.proofs.Split.{place-le, split-cut, split-last}
use Rattle.decimals.proofs.Numbers.{number-told, number-not}
use Rattle.decimals.proofs.Bools.{and-false}

abbrev pub rest : List (List ℕ) → List (List ℕ)
rest [] = []
rest (p ∷ ps) = ps

pub head-split : (s : ℕ) (xs : List ℕ) → split s xs ≡ take (place s xs) xs ∷ rest (split s xs)
head-split s xs = by_cases (ltb (place s xs) (length xs)) refl
  where
    by_cases : (b : Bool) → ltb (place s xs) (length xs) ≡ b → split s xs ≡ take (place s xs) xs ∷ rest (split s xs)
    by_cases true e = rw (split-cut s xs (ltb-true _ _ e))
    by_cases false e = rw (split-last s xs (ltb-false _ _ e), take_all (place s xs) xs (ltb-false _ _ e))

-- the field at a place, and the fields behind it
module _ (s : List ℕ) (at e : ℕ) (found : e ≡ at + place TAB (drop at s)) where
  k-is : e - at ≡ place TAB (drop at s)
  k-is = omega arith

  pub field-last : at ≤ length s → e ≡ length s → split TAB (drop at s) ≡ take (e - at) (drop at s) ∷ []
  field-last h g =
      let l : length (drop at s) ≤ place TAB (drop at s) = rw length-drop (omega arith) in
      rw (split-last TAB (drop at s) l, take_all (e - at) (drop at s) (omega arith))

  pub field-more : at ≤ length s → (e ≡ length s → ⊥) → split TAB (drop at s) ≡ take (e - at) (drop at s) ∷ split TAB (drop (e + 1) s)
  field-more h g =
      let le = place-le TAB (drop at s) in
      let ld = length-drop at s in
      let l : place TAB (drop at s) < length (drop at s) = omega arith in
      let j : at + suc (place TAB (drop at s)) ≡ e + 1 = omega arith in
      split-cut TAB (drop at s) l
      ∙ rw (drop-drop (suc (place TAB (drop at s))) at s, j, k-is)

onto_is : (x : ℕ) (ps : List (List ℕ)) → onto x ps ≡ onto_first x ps
unfolding onto
onto_is x [] = refl
onto_is x (p ∷ ps) = refl

-- the pieces as std's `split` gives them
pub split_is : (s : ℕ) (xs : List ℕ) → split s xs ≡ slice_split (λ b. eqb b s) xs
unfolding split
split_is s [] = refl
split_is s (x ∷ xs) = rw (split_is s xs) (ap (λ t. cond (eqb x s) ([] ∷ slice_split (λ b. eqb b s) xs) t) (onto_is x (slice_split (λ b. eqb b s) xs)))

pub yields-fields : {F : Type 0} {s : Split ℕ F} (g : Mut F (Bor ℕ × Unit {0}) Bool) {f : F} (xs : List ℕ) → split_rest s ≡ xs → split_done s ≡ false → split_callee s ≡ f
    → ((x : ℕ) (b : Bool) (q : F) → CalledAt g f x b q → (q ≡ f) × (b ≡ eqb x TAB)) → YieldsList (split_steps g) (λ x. x.now) s (split TAB xs)
yields-fields g xs rest done callee test = rw split_is (YieldsList-from_slice_split g (λ b. eqb b TAB) xs rest done callee test)

-- what the loop over the fields fs keeps behind the first n of them
pub record Fields (fs : List (List ℕ)) (vals : List ℕ) (n : ℕ) : Type 0 where
  pub most : n ≤ MOST
  pub inside : n ≤ length fs
  pub plain : all_plain (drop n fs) ≡ all_plain fs
  pub whole : take n vals ++ values (drop n fs) ≡ values fs

module _ (fs : List (List ℕ)) (vals : List ℕ) (n : ℕ) (k : Fields fs vals n) where
  pub fields_full : n < length fs → n ≡ MOST → None ≡ count_of fs
  unfolding count_of
  fields_full h e = rw (lt-leb (length fs) MOST (omega arith), and-false (all_plain fs))

  pub fields-end : length fs ≤ n → (Some n ≡ count_of fs) × (take n vals ≡ values fs)
  unfolding count_of all_plain values
  fields-end h =
      let d : drop n fs ≡ [] = drop_of_length-le fs h in
      let p : true ≡ all_plain fs = rw d at k.plain in
      let l : length fs ≡ n = omega (arith, k.inside) in
      (rw (← p, l, le-leb n MOST k.most), rw (d, append-nil) at k.whole)

  module _ (f : List ℕ) (h : n < length fs) (is : f ≡ get_or fs n f) where
    next : drop n fs ≡ f ∷ drop (n + 1) fs
    next = rw (add-one, drop-cons fs n f) (ap (λ g. g ∷ drop (suc n) fs) (sym is))

    pub fields-bad : None ≡ number_of f → None ≡ count_of fs
    unfolding count_of all_plain
    fields-bad e = let p : all_plain fs ≡ false = sym k.plain ∙ rw (next, number-not f None e refl) in rw p

    pub fields-on : (v : ℕ) → Some v ≡ number_of f → n < MOST → length vals ≡ MOST → Fields fs (set vals n v) (n + 1)
    unfolding all_plain values
    fields-on v e hn l =
        let t = number-told f (Some v) v e refl in
        record {
          most = omega arith;
          inside = omega arith;
          plain = (rw (next, t.0) at k.plain);
          whole = rw (add-one, take-suc-set vals n v (omega arith), append_assoc) (rw (next, t.1, add-one) at k.whole);
        }

-- what is told of a line
pub told_none : (l : Line) (out : List ℕ) → malformed ≡ l → Told l out out None
unfolding kind_in row_in
told_none l out e = record { kind = ap kind_in e; row = written_none out 0 (omega arith) ∙ ap (λ (x : Line). written out 0 (row_in x)) e }

pub told-as : (l m : Line) (out after : List ℕ) (r : Option Kind) → Told l out after r → l ≡ m → Told m out after r
told-as l m out after r t e = rw (← e) t

-- a record of a known kind, by the count of its values
pub shape-off : (k : Kind) (vs : List ℕ) (w : ℕ) → w ≡ width k → (length vs ≡ w → ⊥) → malformed ≡ shape (Some k) vs
unfolding shape
shape-off k vs w ew h = let n = sorts-width k in rw (ne_eqb (length vs) (length (sorts k)) (λ z. h (omega arith)))

pub shape-told : (k : Kind) (vs out after : List ℕ) → length vs ≡ length (sorts k) → after ≡ written out 0 (row_of (sorts k) vs)
    → Told (shape (Some k) vs) out after (Some k)
unfolding kind_in row_in shape
shape-told k vs out after h ea = let s = eq-eqb (length vs) (length (sorts k)) h in record { kind = rw s; row = rw s ea }

-- more fields than any kind has, or none
shape-many : (f : Option Kind) (vs : List ℕ) → ROW < length vs → malformed ≡ shape f vs
unfolding shape
shape-many None vs h = refl
shape-many (Some k) vs h = shape-off k vs (width k) refl (λ z. omega (arith, sorts-width k, sorts-few k))

shape-bare : (f : Option Kind) → malformed ≡ shape f []
unfolding shape
shape-bare None = refl
shape-bare (Some Kind.Box) = refl
shape-bare (Some Kind.Port) = refl
shape-bare (Some Kind.Net) = refl
shape-bare (Some Kind.End) = refl

pub length-values : (fs : List (List ℕ)) → length (values fs) ≡ length fs
unfolding values
length-values [] = refl
length-values (f ∷ fs) = ap suc (length-values fs)

-- a line by its word and its other fields
module _ (w : List ℕ) (fs : List (List ℕ)) where
  record-unknown : None ≡ kind_of w → malformed ≡ record_of (w ∷ fs)
  unfolding record_of shape
  record-unknown e = go (all_plain fs)
    where
      go : (b : Bool) → malformed ≡ cond b (shape (kind_of w) (values fs)) malformed
      go true = rw (← e)
      go false = refl

  record-bad : None ≡ count_of fs → malformed ≡ record_of (w ∷ fs)
  unfolding record_of count_of
  record-bad e = go (all_plain fs) (leb (length fs) MOST) refl e
    where
      go : (b c : Bool) → leb (length fs) MOST ≡ c → None ≡ cond (b && c) (Some (length fs)) None → malformed ≡ cond b (shape (kind_of w) (values fs)) malformed
      go false c ec e = refl
      go true true ec e = cc
      go true false ec e = shape-many (kind_of w) (values fs) (omega (arith, length-values fs, leb-false (length fs) MOST ec))

  record_is : (n : ℕ) → Some n ≡ count_of fs → (shape (kind_of w) (values fs) ≡ record_of (w ∷ fs)) × (length (values fs) ≡ n)
  unfolding record_of count_of
  record_is n e = go (all_plain fs) (leb (length fs) MOST) e
    where
      go : (b c : Bool) → Some n ≡ cond (b && c) (Some (length fs)) None → (shape (kind_of w) (values fs) ≡ cond b (shape (kind_of w) (values fs)) malformed) × (length (values fs) ≡ n)
      go true true e = (refl, length-values fs ∙ cc)
      go true false e = cc
      go false c e = cc

module _ (body : List ℕ) (e : ℕ) (found : e ≡ 0 + place TAB (drop 0 body)) where
  pub line-bare : e ≡ length body → malformed ≡ line_of body
  unfolding line_of record_of all_plain values
  line-bare g = rw (field-last body 0 e found (omega arith) g) (shape-bare _)

  module _ (g : e ≡ length body → ⊥) (fs : List (List ℕ)) (rest : fs ≡ split TAB (drop (e + 1) body)) where
    is : line_of body ≡ record_of (take e body ∷ fs)
    unfolding line_of
    is = let z : e - 0 ≡ e = omega arith in ap record_of (field-more body 0 e found (omega arith) g) ∙ rw (z, rest)

    pub line-unknown : None ≡ kind_of (take e body) → malformed ≡ line_of body
    line-unknown h = record-unknown _ fs h ∙ sym is

    pub line-over : None ≡ count_of fs → malformed ≡ line_of body
    line-over h = record-bad _ fs h ∙ sym is

    module _ (k : Kind) (n w : ℕ) (c : Some n ≡ count_of fs) (ek : Some k ≡ kind_of (take e body)) (ew : w ≡ width k) where
      line_is : (shape (Some k) (values fs) ≡ line_of body) × (length (values fs) ≡ n)
      line_is = let r = record_is (take e body) fs n c in (rw ek (r.0 ∙ sym is), r.1)

      pub line-off : (n ≡ w → ⊥) → malformed ≡ line_of body
      line-off h = shape-off k (values fs) w ew (λ z. h (sym line_is.1 ∙ z)) ∙ line_is.0

      pub line-told : (out after : List ℕ) → n ≡ w → after ≡ written out 0 (row_of (sorts k) (values fs)) → Told (line_of body) out after (Some k)
      line-told out after h ea = told-as _ _ out after _ (shape-told k (values fs) out after (line_is.1 ∙ h ∙ ew ∙ sym (sorts-width k)) ea) line_is.0
