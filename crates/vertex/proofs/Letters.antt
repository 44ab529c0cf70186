-- Kinds and letters undo each other: of every kind, and of every letter of the listing.
use mathlib.Core.Path.{◌≡◌, refl}
use mathlib.Core.Bool.{true, false}
use mathlib.Core.List.Memᴰ
use mathlib.Core.List.{List, ◌∷◌, Memᴰ}
use mathlib.Core.Logic.{⊎_elim}
use Prim.Native.Nat.{ℕ}
use Rattle.vertex.specs.Kinds.{LETTERS, letter_of, kind_of}
use Rattle.std.specs.Prelude.{None, Some}
use Rattle.vertex.specs.declared.JunctionKind.TheVariants.{Corner, LineSegment}
use Rattle.vertex.specs.declared.VertexKind.{VertexKind}
use Rattle.vertex.specs.declared.VertexKind.TheVariants.{WireStart, Dummy, Normal, WireEnd}

pub kind-letter : (k : VertexKind) → kind_of (letter_of k) ≡ k
kind-letter (WireStart true) = refl
kind-letter (WireStart false) = refl
kind-letter Dummy = refl
kind-letter Normal = refl
kind-letter (WireEnd None) = refl
kind-letter (WireEnd (Some Corner)) = refl
kind-letter (WireEnd (Some LineSegment)) = refl

pub letter-kind : (l : ℕ) → Memᴰ l LETTERS → letter_of (kind_of l) ≡ l
letter-kind l = or 82 refl (or 66 refl (or 68 refl (or 78 refl (or 69 refl (or 67 refl (or 76 refl (λ m. absurd (Memᴰ.not-nil m))))))))
  where
    or : (b : ℕ) {r : List ℕ} → letter_of (kind_of b) ≡ b → (Memᴰ l r → letter_of (kind_of l) ≡ l) → Memᴰ l (b ∷ r) → letter_of (kind_of l) ≡ l
    or b h f m = ⊎_elim (λ e. rw e h) f (Memᴰ.cases_cons m)
