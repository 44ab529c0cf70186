-- The lines as the pieces that are written one behind another.
use mathlib.Core.Path.{◌≡◌, refl, sym, ap, ◌∙◌}
use mathlib.Core.List.{List, [], ◌∷◌, ◌++◌, append_assoc}
use Prim.Native.Nat.{ℕ, ◌+◌, ◌≤◌}
use native.Mathlib.Omega.{arith}
use lib.IntN.{ℤ}
use lib.ListN.{length, length-append, get_or, get_or-eq_default}
use Rattle.fixed.specs.Up.{ups}
use Rattle.fixed.proofs.Lists.{length-ups}
use Rattle.decimals.specs.Bytes.{TAB, LF}
use Rattle.decimals.specs.Write.{field, tabbed, Put}
use Rattle.decimals.proofs.Written.{put_then}
use Rattle.listing.specs.Listing.{line}

on : (f : List ℕ) (fs : List (List ℕ)) (e : List ℕ) → tabbed (f ∷ fs) ++ e ≡ field f ++ (tabbed fs ++ e)
unfolding tabbed
on f fs e = append_assoc (field f) (tabbed fs) e

-- the last field is a letter, or a number
letter-last : (l : ℕ) → tabbed ((l ∷ []) ∷ []) ++ (LF ∷ []) ≡ TAB ∷ l ∷ LF ∷ []
unfolding tabbed
letter-last l = refl

none_last : tabbed [] ++ (LF ∷ []) ≡ LF ∷ []
unfolding tabbed
none_last = refl

regroup-3 : (w a b c e : List ℕ) → w ++ (a ++ (b ++ (c ++ e))) ≡ ((w ++ a) ++ (b ++ c)) ++ e
regroup-3 w a b c e = simp append_assoc

regroup-2 : (w a b e : List ℕ) → w ++ (a ++ (b ++ e)) ≡ (w ++ (a ++ b)) ++ e
regroup-2 w a b e = simp append_assoc

regroup-4 : (w a b c d e : List ℕ) → w ++ (a ++ (b ++ (c ++ (d ++ e)))) ≡ ((w ++ (a ++ b)) ++ (c ++ d)) ++ e
regroup-4 w a b c d e = simp append_assoc

-- a word, a number and a place, a letter
pub vertex-pieces : (w f g h : List ℕ) (l : ℕ) → line w (f ∷ g ∷ h ∷ (l ∷ []) ∷ []) ≡ ((w ++ field f) ++ (field g ++ field h)) ++ (TAB ∷ l ∷ LF ∷ [])
unfolding line
vertex-pieces w f g h l =
    ap (λ (t : List ℕ). w ++ t) (on f (g ∷ h ∷ (l ∷ []) ∷ []) _ ∙ ap (λ (t : List ℕ). field f ++ t) (on g (h ∷ (l ∷ []) ∷ []) _ ∙ ap (λ (t : List ℕ). field g ++ t) (on h ((l ∷ []) ∷ []) _ ∙ ap (λ (t : List ℕ). field h ++ t) (letter-last l))))
    ∙ regroup-3 w (field f) (field g) (field h) _

-- a word, two numbers, a letter
pub join-pieces : (w f g : List ℕ) (l : ℕ) → line w (f ∷ g ∷ (l ∷ []) ∷ []) ≡ (w ++ (field f ++ field g)) ++ (TAB ∷ l ∷ LF ∷ [])
unfolding line
join-pieces w f g l =
    ap (λ (t : List ℕ). w ++ t) (on f (g ∷ (l ∷ []) ∷ []) _ ∙ ap (λ (t : List ℕ). field f ++ t) (on g ((l ∷ []) ∷ []) _ ∙ ap (λ (t : List ℕ). field g ++ t) (letter-last l)))
    ∙ regroup-2 w (field f) (field g) _

-- a word, four numbers
pub net-pieces : (w f g h k : List ℕ) → line w (f ∷ g ∷ h ∷ k ∷ []) ≡ ((w ++ (field f ++ field g)) ++ (field h ++ field k)) ++ (LF ∷ [])
unfolding line
net-pieces w f g h k =
    ap (λ (t : List ℕ). w ++ t) (on f (g ∷ h ∷ k ∷ []) _ ∙ ap (λ (t : List ℕ). field f ++ t) (on g (h ∷ k ∷ []) _ ∙ ap (λ (t : List ℕ). field g ++ t) (on h (k ∷ []) _ ∙ ap (λ (t : List ℕ). field h ++ t) (on k [] _ ∙ ap (λ (t : List ℕ). field k ++ t) none_last))))
    ∙ regroup-4 w (field f) (field g) (field h) (field k) _

-- a word, two numbers
pub pair-pieces : (w f g : List ℕ) → line w (f ∷ g ∷ []) ≡ (w ++ (field f ++ field g)) ++ (LF ∷ [])
unfolding line
pair-pieces w f g =
    ap (λ (t : List ℕ). w ++ t) (on f (g ∷ []) _ ∙ ap (λ (t : List ℕ). field f ++ t) (on g [] _ ∙ ap (λ (t : List ℕ). field g ++ t) none_last))
    ∙ regroup-2 w (field f) (field g) _

-- ---- room for the pieces

pub three : (a b c : List ℕ) → length ((a ++ b) ++ c) ≡ length a + length b + length c
three a b c = length-append (a ++ b) c ∙ ap (λ (n : ℕ). n + length c) (length-append a b)

four : (a b c d : List ℕ) → length (((a ++ b) ++ c) ++ d) ≡ length a + length b + length c + length d
four a b c d = length-append ((a ++ b) ++ c) d ∙ ap (λ (n : ℕ). n + length d) (three a b c)

pub vertex-room : (w f g h : List ℕ) (l : ℕ) → length (line w (f ∷ g ∷ h ∷ (l ∷ []) ∷ [])) ≡ length w + length (field f) + length (field g ++ field h) + 3
vertex-room w f g h l = ap length (vertex-pieces w f g h l) ∙ four w (field f) (field g ++ field h) _

pub join-room : (w f g : List ℕ) (l : ℕ) → length (line w (f ∷ g ∷ (l ∷ []) ∷ [])) ≡ length w + length (field f ++ field g) + 3
join-room w f g l = ap length (join-pieces w f g l) ∙ three w (field f ++ field g) _

pub net-room : (w f g h k : List ℕ) → length (line w (f ∷ g ∷ h ∷ k ∷ [])) ≡ length w + length (field f ++ field g) + length (field h ++ field k) + 1
net-room w f g h k = ap length (net-pieces w f g h k) ∙ four w (field f ++ field g) (field h ++ field k) _

pub pair-room : (w f g : List ℕ) → length (line w (f ∷ g ∷ [])) ≡ length w + length (field f ++ field g) + 1
pair-room w f g = ap length (pair-pieces w f g) ∙ three w (field f ++ field g) _

pub ruleset rooms = (vertex-room, join-room, net-room, pair-room, length-append)

-- ---- pieces behind pieces

pub put_3 : (buf u v w a b c : List ℕ) (at e f g : ℕ) → Put buf at a u e → Put u e b v f → Put v f c w g → at + (length a + length b + length c) ≤ length buf
    → Put buf at ((a ++ b) ++ c) w g
put_3 buf u v w a b c at e f g p q r l =
    put_then buf v w (a ++ b) c at f g (put_then buf u v a b at e f p q (omega arith)) r (omega (arith, length-append a b))

pub put_4 : (buf u v w x a b c d : List ℕ) (at e f g h : ℕ) → Put buf at a u e → Put u e b v f → Put v f c w g → Put w g d x h
    → at + (length a + length b + length c + length d) ≤ length buf → Put buf at (((a ++ b) ++ c) ++ d) x h
put_4 buf u v w x a b c d at e f g h p q r s l =
    put_then buf w x ((a ++ b) ++ c) d at g h (put_3 buf u v w a b c at e f g p q r (omega arith)) s (omega (arith, three a b c))

-- ---- coordinates

pub coord_past : (xs : List ℤ) (i : ℕ) → length xs ≤ i → 0 ≡ get_or (ups xs) i 0
coord_past xs i h = sym (get_or-eq_default (ups xs) 0 (omega (arith, length-ups xs)))
