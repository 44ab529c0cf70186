-- What was printed last year is printed now.
use mathlib.Core.Path.{ap, subst}
use mathlib.Core.Bool.{true}
use Rattle.decimals.specs.Write.{Put}
use Rattle.page_text.proofs.LastYear as reading
use Rattle.page_listing.specs.Printed.{read_printed, printed}
use Rattle.page_listing.specs.Claims.{LastYear, LastYearPrints}

pub last-year : LastYear
unfolding printed
last-year pruned apart text e = ap (read_printed pruned apart) (reading.last-year text e)

pub last-year-prints : LastYearPrints
last-year-prints text start before after n p h e = subst (λ bytes. Put before 0 bytes after n) (last-year true true text e) (p text h)
