-- The lists by their kinds.
use mathlib.Core.Path.{◌≡◌, refl}
use mathlib.Core.List.{List}
use Rattle.book.specs.Book.{Record, Lists, list, with_list}
use Rattle.book.specs.declared.Kind.{Kind}

pub lists-path : (l m : Lists) → ((k : Kind) → list k l ≡ list k m) → l ≡ m
lists-path l m h = λ i. record { boxes = h Kind.Box i; ports = h Kind.Port i; nets = h Kind.Net i; ends = h Kind.End i }

pub list-with : (k : Kind) (rs : List Record) (l : Lists) → list k (with_list k rs l) ≡ rs
list-with Kind.Box rs l = refl
list-with Kind.Port rs l = refl
list-with Kind.Net rs l = refl
list-with Kind.End rs l = refl

pub with-list : (k : Kind) (l : Lists) → with_list k (list k l) l ≡ l
with-list Kind.Box l = refl
with-list Kind.Port l = refl
with-list Kind.Net l = refl
with-list Kind.End l = refl
