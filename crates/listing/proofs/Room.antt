-- How many bytes the lines take at most.
use mathlib.Core.Path.{◌≡◌, sym}
use mathlib.Core.List.{List, [], ◌∷◌, ◌++◌}
use Prim.Native.Nat.{ℕ, ◌<◌, ◌≤◌}
use native.Mathlib.Omega.{arith}
use lib.ListN.{length, length-append}
use lib.Seq.{length-take-le}
use Rattle.decimals.specs.Bytes.{LF}
use Rattle.decimals.specs.Decimal.{BASE}
use Rattle.decimals.specs.Write.{digits, field, Put}
use Rattle.decimals.proofs.Clean.{digits-width}
use Rattle.listing.specs.Listing.{refused_line, First}
use Rattle.listing.proofs.Pieces.{pair-pieces, pair-room, put_3}

pub refused-room : (at inner : ℕ) → at < BASE → inner < BASE → length (refused_line at inner) ≤ 30
unfolding refused_line
refused-room at inner h k =
    omega (arith, pair-room (114 ∷ 101 ∷ 102 ∷ 117 ∷ 115 ∷ 101 ∷ 100 ∷ []) (digits at) (digits inner), length-append (field (digits at)) (field (digits inner)), digits-width at h, digits-width inner k)

-- its word, two numbers and the LF, one behind another
pub refused-put : (at inner : ℕ) (buf u v w : List ℕ) (e f g : ℕ) → length (refused_line at inner) ≤ length buf → Put buf 0 (114 ∷ 101 ∷ 102 ∷ 117 ∷ 115 ∷ 101 ∷ 100 ∷ []) u e → Put u e (field (digits at) ++ field (digits inner)) v f → Put v f (LF ∷ []) w g
    → Put buf 0 (refused_line at inner) w g
unfolding refused_line
refused-put at inner buf u v w e f g h p q r =
    rw (pair-pieces (114 ∷ 101 ∷ 102 ∷ 117 ∷ 115 ∷ 101 ∷ 100 ∷ []) (digits at) (digits inner))
    (put_3 buf u v w _ _ _ 0 e f g p q r (omega (arith, pair-room (114 ∷ 101 ∷ 102 ∷ 117 ∷ 115 ∷ 101 ∷ 100 ∷ []) (digits at) (digits inner))))

-- what is written from the begin on is the first part of the buffer
pub first : (start ds buf : List ℕ) (e : ℕ) → Put start 0 ds buf e → length buf ≡ length start → length ds ≤ length start → First e buf
first start ds buf e p l h = let few : e ≤ length buf = omega (arith, p.next) in (few, sym (length-take-le e buf few))
