-- 01, 'Numbers handed back': why a call is refused, and the number of each reason; 0 is a call that is done.
use Rattle.std.specs.Prelude.{ℕ, Result, Ok, Err}
use Rattle.book.specs.declared.Refusal.{Refusal}
use Rattle.book.specs.declared.Refusal.TheVariants.{TooShort, OutOfRange, Taken, Unknown, InUse, Full, NothingToUndo, Crowded, NoStart, NoEnd, NoLine, NotEnoughEndpoints, InvalidPoint, PathTooShort, TooLong, BadText}

abbrev pub code : Refusal → ℕ
code TooShort = 1
code OutOfRange = 2
code Taken = 3
code Unknown = 4
code InUse = 5
code Full = 6
code NothingToUndo = 7
code Crowded = 8
code NoStart = 9
code NoEnd = 10
code NoLine = 11
code NotEnoughEndpoints = 12
code InvalidPoint = 13
code PathTooShort = 14
code TooLong = 15
code BadText = 16

abbrev pub number_of : {T : Type 0} → Result T Refusal → ℕ
number_of (Ok x) = 0
number_of (Err e) = code e
