-- What a search between nodes gives: the ends that count are nodes, and so are the line's nodes; the code's answer is the line.
use Prim.Native.Nat.{ℕ, zero, suc, ◌+◌, ◌-◌, ◌≤◌, ◌<◌}
use mathlib.Core.Path.{◌≡◌, refl, sym, ap, ◌∙◌, subst}
use mathlib.Core.List.{List, [], ◌∷◌, ◌++◌, reverse, reverse-cons}
use mathlib.Core.Bool.{Bool, true, false, cond, not, ◌&&◌}
use native.Mathlib.Omega.{arith}
use native.Mathlib.Decide.{ℕ_discrete, dec_lt}
use native.Mathlib.Nat.{le_of_suc-le-suc, not-suc-le-zero, zero-add}
use lib.ListN.{length, get_or, take, drop, drop_of_length-le, replicate, length-replicate, get_or-replicate, length-append, get_or-append}
use lib.Seq.{length-take-le, get_or-append_seam, get_or-append-add, get_or_at, ext_get_or}
use lib.Dec.{eqb}
use borrow.Author.Tests.{eq-eqb, ne_eqb, eqb-false}
use Rattle.fixed.proofs.Bools.{clash}
use Rattle.axis.proofs.Small.{Place, before, beyond, place}
use Rattle.zeros.specs.Zeros.{closed}
use Rattle.nodes.specs.Graph.{Graph, none}
use Rattle.std.proofs.Common.{Some}
use Rattle.astar.specs.Search.{St, IsNode, chain, holds, search, traced_line}
use Rattle.astar.specs.Reached.{Ready, Below}
use Rattle.astar.specs.Scratch.{Back, last, more}
use Rattle.astar.proofs.Roads.{roads}
use Rattle.astar.proofs.Line.{found-end, found-traced, line-none, line_is}
use Rattle.path_finding.specs.Line.{has_link, admit, goals, line, table}

pub below_more : (n : ℕ) (l : List ℕ) (e : ℕ) → Below n l → e < n → Below n (l ++ (e ∷ []))
below_more n l e b en i h = go (dec_lt i (length l))
  where
    go : Dec (i < length l) → get_or (l ++ (e ∷ [])) i 0 < n
    go (yes k) = rw (get_or-append l (e ∷ []) 0 i k) (b i k)
    go (no k) =
        let q : i ≡ length l = omega (arith, length-append l (e ∷ [])) in
        rw (q, get_or-append_seam l e [] 0) en

-- ---- the ends that count

admit-below : (n : ℕ) (ls gs : List ℕ) (e : ℕ) → Below n gs → e < n → Below n (admit ls gs e)
unfolding admit
admit-below n ls gs e b en = go (has_link ls e && not (holds e gs))
  where
    go : (t : Bool) → Below n (cond t (gs ++ (e ∷ [])) gs)
    go true = below_more n gs e b en
    go false = b

pub goals-below : (n : ℕ) (ls es : List ℕ) → Below n es → (k : ℕ) → k ≤ length es → Below n (goals ls es k)
unfolding goals
goals-below n ls es b zero h = λ i k. absurd (not-suc-le-zero k)
goals-below n ls es b (suc k) h = admit-below n ls (goals ls es k) (get_or es k 0) (goals-below n ls es b k (omega arith)) (b k h)

pub goals-are-nodes : (n : ℕ) (ls es gs : List ℕ) → Below n es → gs ≡ goals ls es (length es) → Below n gs
goals-are-nodes n ls es gs b e = subst (λ (l : List ℕ). Below n l) (sym e) (goals-below n ls es b (length es) (omega arith))

-- ---- the line's nodes

-- each is a node
abbrev All : ℕ → List ℕ → Type 0
All n [] = Unit {0}
All n (v ∷ l) = (v < n) × All n l

all_more : (n : ℕ) (l : List ℕ) (e : ℕ) → All n l → e < n → All n (l ++ (e ∷ []))
all_more n [] e a h = (h, tt)
all_more n (v ∷ l) e a h = (a.0, all_more n l e a.1 h)

all-reverse : (n : ℕ) (l : List ℕ) → All n l → All n (reverse l)
all-reverse n [] a = tt
all-reverse n (v ∷ l) a = rw (reverse-cons v l) (all_more n (reverse l) v (all-reverse n l a.1) a.0)

all-below : (n : ℕ) (l : List ℕ) → All n l → Below n l
all-below n [] a i h = absurd (not-suc-le-zero h)
all-below n (v ∷ l) a zero h = a.0
all-below n (v ∷ l) a (suc i) h = all-below n l a.1 i (le_of_suc-le-suc h)

all-chain : (n : ℕ) (p : List ℕ) (k v m : ℕ) → Back n p v m → All n (chain k p v)
unfolding chain
all-chain n p zero v m (last h e) = (h, tt)
all-chain n p zero v m (more h e b) = (h, tt)
all-chain n p (suc k) v m (last h e) = rw (eq-eqb _ _ e) (h, tt)
all-chain n p (suc k) v m (more h e b) = rw (ne_eqb _ _ e) (h, all-chain n p k (get_or p v 0) _ b)

pub line-below : (G : Graph) → Ready G → (es : List ℕ) (a : ℕ) → a < G.count → Below G.count (traced_line G es a)
unfolding traced_line
line-below G w es a an = all-below G.count (cond (eqb (search G es a).at none) [] (reverse (chain G.count (search G es a).end.p (search G es a).at))) (go (eqb (search G es a).at none) refl)
  where
    go : (t : Bool) → eqb (search G es a).at none ≡ t → All G.count (cond t [] (reverse (chain G.count (search G es a).end.p (search G es a).at)))
    go true e = tt
    go false e =
        let T = found-traced G.count G (roads G w) es a an (eqb-false _ _ e) in
        all-reverse G.count (chain G.count (search G es a).end.p (search G es a).at) (all-chain G.count (search G es a).end.p G.count (search G es a).at T.nodes T.back)

-- ---- the code's answer, where `gs` are the ends that count

module _ (G : Graph) (w : Ready G) (es gs : List ℕ) (a : ℕ) (an : a < G.count) (s : St) (eg : gs ≡ goals G.links es (length es)) (el : s ≡ (search G gs a).end) where
  pub no_line : (search G gs a).at ≡ none → [] ≡ line G es a
  unfolding line
  no_line h = rw (← eg) (line-none G w gs a an s el h)

  pub a-line : (u : ℕ) → IsNode (Some u) (search G gs a).at → (r : List ℕ) → r ≡ reverse (chain G.count s.p u) → r ≡ line G es a
  unfolding line
  a-line u h r e = rw (← eg) (e ∙ line_is G w gs a an s el u h)

-- where no end counts there is no line
no-goal : (G : Graph) → Ready G → (a : ℕ) → a < G.count → Dec ((search G [] a).at ≡ none) → [] ≡ traced_line G [] a
unfolding traced_line holds
no-goal G w a an (yes e) = rw (eq-eqb _ _ e)
no-goal G w a an (no ne) = absurd (clash (found-end G w [] a an ne).1 refl)

pub none-counts : (G : Graph) → Ready G → (es : List ℕ) (a : ℕ) → a < G.count → (ks : List ℕ) (m : ℕ) → m ≡ 0 → take m ks ≡ goals G.links es (length es) → [] ≡ line G es a
unfolding line
none-counts G w es a an ks m z e =
    let h : goals G.links es (length es) ≡ [] = sym e ∙ ap (λ (k : ℕ). take k ks) z in
    rw h (no-goal G w a an (ℕ_discrete _ _))

pub is-line-below : (G : Graph) → Ready G → (es : List ℕ) (a : ℕ) → a < G.count → (l : List ℕ) → l ≡ line G es a → Below G.count l
unfolding line
is-line-below G w es a an l e = subst (λ (x : List ℕ). Below G.count x) (sym e) (line-below G w _ a an)

-- nothing lies behind a list
pub drop-all : (l : List ℕ) → drop (length l) l ≡ []
drop-all l = drop_of_length-le l {i = length l} (omega arith)

-- the ends that count of the first k of a list
pub all-goals : (ls l : List ℕ) (k : ℕ) → k ≤ length l → (gs : List ℕ) → gs ≡ goals ls (take k l) k → gs ≡ goals ls (take k l) (length (take k l))
all-goals ls l k h gs e = e ∙ ap (goals ls (take k l)) (sym (length-take-le k l h))

-- ---- a table's length

pub table-length : (f : ℕ → ℕ) (n : ℕ) → length (table f n) ≡ n
unfolding table
table-length f zero = refl
table-length f (suc n) = length-append (table f n) (f n ∷ []) ∙ omega (arith, table-length f n)

-- its entries
pub table_at : (f : ℕ → ℕ) (n k : ℕ) → k < n → get_or (table f n) k 0 ≡ f k
unfolding table
table_at f zero k h = absurd (omega arith)
table_at f (suc n) k h = go (ℕ_discrete k n) (table_at f n k)
  where
    go : Dec (k ≡ n) → (k < n → get_or (table f n) k 0 ≡ f k) → get_or (table f n ++ (f n ∷ [])) k 0 ≡ f k
    go (yes e) ih = rw e (get_or_at (table f n) (f n) [] 0 n (table-length f n))
    go (no ne) ih = get_or-append (table f n) (f n ∷ []) 0 k (omega (arith, table-length f n)) ∙ ih (omega arith)

pub table-self : (f : ℕ → ℕ) (l : List ℕ) (n : ℕ) → l ≡ table f n → l ≡ table f (length l)
table-self f l n e = let h : n ≡ length l = sym (ap length e ∙ table-length f n) in e ∙ ap (table f) h

filled : (f : ℕ → ℕ) (z d k : ℕ) → ((j : ℕ) → k ≤ j → j < k + d → f j ≡ z) → table f k ++ replicate d z ≡ table f (k + d)
filled f z d k g = ext_get_or 0 (table f k ++ replicate d z) (table f (k + d)) (both ∙ sym (table-length f (k + d))) (λ j lt. by j (omega (arith, both)) (place k j))
  where
    both : length (table f k ++ replicate d z) ≡ k + d
    both = length-append (table f k) (replicate d z) ∙ omega (arith, table-length f k, length-replicate d z)

    by : (j : ℕ) → j < k + d → Place k j → get_or (table f k ++ replicate d z) j 0 ≡ get_or (table f (k + d)) j 0
    by j lt (before b) = get_or-append (table f k) (replicate d z) 0 j (omega (arith, table-length f k)) ∙ table_at f k j b ∙ sym (table_at f (k + d) j lt)
    by j lt (beyond q b) =
        let n : j ≡ length (table f k) + q = omega (arith, table-length f k) in
        ap (λ (i : ℕ). get_or (table f k ++ replicate d z) i 0) n ∙ get_or-append-add (table f k) (replicate d z) q 0 ∙ get_or-replicate d q z 0 (omega arith) ∙ sym (table_at f (k + d) j lt ∙ g j (omega arith) lt)

-- the first m entries, and z behind them, where f is z
pub table-closed : (f : ℕ → ℕ) (z m n i : ℕ) (l : List ℕ) → take i l ≡ table f i → i ≡ m → m ≤ n → length l ≡ n → ((k : ℕ) → m ≤ k → k < n → z ≡ f k) → closed z m l ≡ table f n
unfolding closed
table-closed f z m n i l e q h len off =
    let d : length l - m ≡ n - m = omega arith in
    let e' = rw q at e in
    rw (e', d) (filled f z (n - m) m (λ k a b. sym (off k a (omega arith))) ∙ ap (table f) (omega arith))

-- a table of one number
pub table-of : (f : ℕ → ℕ) (z n : ℕ) → ((k : ℕ) → f k ≡ z) → replicate n z ≡ table f n
unfolding table
table-of f z n h = filled f z n 0 (λ k a b. h k) ∙ ap (table f) (zero-add n)
