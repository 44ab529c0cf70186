-- 01, 'Limits' and 'Program `wires`', and 02, S-1: how much of a text is printed, and what is printed as before.
use Rattle.std.specs.Prelude.{◌≡◌, Bool, true, List, ℕ, take}
use Rattle.decimals.specs.Write.{Put}
use Rattle.page_text.specs.Law.{TEXT}
use Rattle.page_text.specs.LastYear.{last_year}
use Rattle.page_listing.specs.Printed.{read_printed, printed}

-- what stands behind 641 lines of 96 bytes has no say
abbrev pub Decides : Type 0
Decides = (pruned apart : Bool) (text : List ℕ) → printed pruned apart (take TEXT text) ≡ printed pruned apart text

-- 'prunes, separates and prints': where the first TEXT bytes of a text were read, what is printed of it stands at the buffer's begin, and all other bytes are as they were
abbrev pub Prints : List ℕ → List ℕ → List ℕ → ℕ → Type 0
Prints start before after n = (text : List ℕ) → take TEXT text ≡ start → Put before 0 (printed true true text) after n

-- 'page texts accepted last year are read as before': the same is printed of them
abbrev pub LastYear : Type 0
LastYear = (pruned apart : Bool) (text : List ℕ) → (last_year text).number ≡ 0 → printed pruned apart text ≡ read_printed pruned apart (last_year text)

-- of the call
abbrev pub LastYearPrints : Type 0
LastYearPrints =
    (text start before after : List ℕ) (n : ℕ) → Prints start before after n → take TEXT text ≡ start → (last_year text).number ≡ 0
    → Put before 0 (read_printed true true (last_year text)) after n
