-- The bytes that decide what is printed.
use Prim.Native.Nat.{ℕ}
use mathlib.Core.Path.{ap, sym, ◌∙◌, subst}
use mathlib.Core.Bool.{true}
use mathlib.Core.List.{List}
use Rattle.decimals.specs.Write.{Put}
use Rattle.page_text.proofs.Decides as reading
use Rattle.page_listing.specs.Printed.{read_printed, printed}
use Rattle.page_listing.specs.Claims.{Decides, Prints}

pub decides : Decides
unfolding printed
decides pruned apart text = ap (read_printed pruned apart) (reading.decides text)

-- what is printed of the bytes read is printed of every text that begins with them
pub prints : (start before after : List ℕ) (n : ℕ) → Put before 0 (printed true true start) after n → Prints start before after n
prints start before after n p text e =
    subst (λ bytes. Put before 0 bytes after n) (sym (ap (printed true true) e) ∙ decides true true text) p
