-- Pieces written by a loop, one a turn: one invariant for every such loop.
--     up_to-le                               the first k pieces are no longer than all
--     writing_begins, writing-on, written_all   the loop's begin, turn and end
use mathlib.Core.Path.{◌≡◌, refl, ap, ◌∙◌, subst}
use mathlib.Core.List.{List, ◌++◌}
use Prim.Native.Nat.{ℕ, zero, suc, ◌+◌, ◌-◌, ◌<◌, ◌≤◌}
use native.Mathlib.Omega.{arith}
use native.Mathlib.Numerals.{add-one}
use lib.ListN.{length, length-append}
use Rattle.decimals.specs.Write.{Put}
use Rattle.decimals.proofs.Written.{put_then, written_none}
use Rattle.listing.specs.Listing.{up_to}

more_by : (f : ℕ → List ℕ) (k d : ℕ) → length (up_to f k) ≤ length (up_to f (d + k))
unfolding up_to
more_by f k zero = let z : 0 + k ≡ k = omega arith in rw z (omega arith)
more_by f k (suc d) = let z : suc d + k ≡ suc (d + k) = omega arith in rw (z, length-append (up_to f (d + k)) (f (d + k))) (omega (arith, more_by f k d))

pub up_to-le : (f : ℕ → List ℕ) (k n : ℕ) → k ≤ n → length (up_to f k) ≤ length (up_to f n)
up_to-le f k n h = let z : (n - k) + k ≡ n = omega arith in subst (λ (m : ℕ). length (up_to f k) ≤ length (up_to f m)) z (more_by f k (n - k))

up_to-suc : (f : ℕ → List ℕ) (k : ℕ) → up_to f (k + 1) ≡ up_to f k ++ f k
unfolding up_to
up_to-suc f k = rw (add-one k)

-- the first k of n pieces are written from `from` on, and there is room for all
pub record Writing (f : ℕ → List ℕ) (n : ℕ) (start buf : List ℕ) (from at k : ℕ) : Type 0 where
  pub reached : k ≤ n
  pub long : length buf ≡ length start
  pub put : Put start from (up_to f k) buf at
  pub room : from + length (up_to f n) ≤ length start

pub writing_begins : (f : ℕ → List ℕ) (n : ℕ) (start : List ℕ) (from : ℕ) → from + length (up_to f n) ≤ length start → Writing f n start start from from 0
unfolding up_to
writing_begins f n start from h =
    record { reached = omega arith; long = refl; put = record { bytes = written_none start from (omega arith); next = omega arith }; room = h }

module _ {f : ℕ → List ℕ} {n : ℕ} {start buf : List ℕ} {from at k : ℕ} (w : Writing f n start buf from at k) where
  -- there is room for the next piece
  pub writing-room : k < n → at + length (f k) ≤ length buf
  writing-room h =
      let a = up_to-le f (k + 1) n (omega arith) in
      let b : length (up_to f (k + 1)) ≡ length (up_to f k) + length (f k) = ap length (up_to-suc f k) ∙ length-append (up_to f k) (f k) in
      omega (arith, w.put.next, w.room, w.long)

  pub writing-on : (buf' : List ℕ) (at' : ℕ) → k < n → Put buf at (f k) buf' at' → length buf' ≡ length buf → Writing f n start buf' from at' (k + 1)
  writing-on buf' at' h p l =
      let a = up_to-le f (k + 1) n (omega arith) in
      let b : length (up_to f (k + 1)) ≡ length (up_to f k) + length (f k) = ap length (up_to-suc f k) ∙ length-append (up_to f k) (f k) in
      record { reached = omega arith; long = l ∙ w.long; put = rw (up_to-suc f k) (put_then start buf buf' (up_to f k) (f k) from at at' w.put p (omega (arith, w.room))); room = w.room }

  pub written_all : n ≤ k → Put start from (up_to f n) buf at
  written_all h = let e : k ≡ n = omega (arith, w.reached) in subst (λ (m : ℕ). Put start from (up_to f m) buf at) e w.put
