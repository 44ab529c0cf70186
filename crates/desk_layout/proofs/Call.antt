-- A layout as a call: what its answer and its outputs are at each return.
use mathlib.Core.Path.{◌≡◌, refl, sym, ap, ◌∙◌}
use mathlib.Core.List.{List}
use mathlib.Core.Bool.{Bool, true, false, ◌&&◌}
use Prim.Native.Nat.{ℕ, ◌≤◌}
use borrow.Author.Tests.{leb-true}
use lib.Dec.{leb}
use lib.IntN.{ℤ}
use lib.ListN.{length}
use Rattle.fixed.proofs.Bools.{and_left, and_right}
use Rattle.fixed.proofs.Lists.{length-ups}
use Rattle.anchors.specs.Records.{Records}
use Rattle.page_graph.specs.Lent.{Asked}
use Rattle.page_graph.specs.Claims.{Placed}
use Rattle.layout.specs.Answer.{layout_number as page_number}
use Rattle.page_layout.specs.Drawing.{Drawing, drawing, laid}
use Rattle.desk.specs.Sizes.{DESK}
use Rattle.book.specs.Book.{Lists, Seen, valid, ranged, answer}
use Rattle.desk.specs.Desk.{book_of, seen_of, sized}
use Rattle.book.proofs.Keeps.{lists-ok}
use Rattle.desk.proofs.Whole.{sound-at, unsound-at}
use Rattle.select.specs.Page.{page_of}
use Rattle.select.proofs.Ok.{few_nets, few-ends}
use Rattle.select.proofs.Asked.{asked, placed}
use Rattle.desk_layout.specs.declared.Choice.{Choice}
use Rattle.desk_layout.specs.Layout.{is_pruned, is_apart, ok_choice, layout_number, zeros, left, is_lent, tested, says, shows, desk_number, desk_drawing}
use Rattle.desk_layout.proofs.Outputs.{laid-left}

-- ---- 1
module _ (ws : List ℕ) (d : Drawing) (q : Choice) where
  says-1 : is_lent (length ws) d ≡ false → (1 ≡ desk_number ws d q) × (d ≡ desk_drawing ws d q)
  unfolding says shows
  says-1 e = rw e (refl, refl)

  module _ (e : is_lent (length ws) d ≡ true) (r : ℕ) (er : r ≡ tested (seen_of ws) q) where
    number_on : r ≡ desk_number ws d q
    unfolding says
    number_on = rw e er

    drawing_on : (p : Drawing) → p ≡ left r (book_of ws).lists q d → p ≡ desk_drawing ws d q
    unfolding shows
    drawing_on p ep = rw e (ep ∙ ap (λ (n : ℕ). left n (book_of ws).lists q d) er)

-- ---- 2
module _ (s : Seen) (q : Choice) (d : Drawing) where
  refused-desk : s.sound ≡ false → (p : Drawing) → p ≡ zeros d → (2 ≡ tested s q) × (p ≡ left 2 s.lists q d)
  unfolding tested ranged answer left
  refused-desk e p ep = rw e (refl, ep)

  refused-choice : s.sound ≡ true → ok_choice q ≡ false → (p : Drawing) → p ≡ zeros d → (2 ≡ tested s q) × (p ≡ left 2 s.lists q d)
  unfolding tested ranged answer left
  refused-choice v e p ep = rw (v, e) (refl, ep)

  passed : s.sound ≡ true → ok_choice q ≡ true → (r : ℕ) → r ≡ layout_number s.lists → r ≡ tested s q
  unfolding tested ranged answer
  passed v e r er = rw (v, e) er

-- ---- the page of a valid desk, and what a layout of it leaves
module _ (l : Lists) (r : Records) (page : r ≡ page_of l) where
  page-number : (n : ℕ) → n ≡ page_number r → n ≡ layout_number l
  unfolding layout_number
  page-number n e = e ∙ ap page_number page

  page-left : (q : Choice) (d p : Drawing) (n : ℕ) → n ≡ page_number r → p ≡ laid r (is_pruned q) (is_apart q) d → p ≡ left n l q d
  page-left q d p n en ep = ep ∙ rw page (laid-left l q d n (page-number n en))

-- ---- at each return, over what is lent
module _ (ws : List ℕ) (Q : Choice) (nets : List ℕ) (x y : List ℤ) (kinds joins : List ℕ) where
  abbrev D : Drawing
  D = drawing nets x y kinds joins

  module _ (b : Bool)
      (eb : b ≡ leb DESK (length ws) && (leb 320 (length nets) && ((leb 512 (length x) && leb 512 (length y)) && (leb 512 (length kinds) && leb 768 (length joins)))))
    where
      lent_is : b ≡ is_lent (length ws) D
      unfolding is_lent
      lent_is = rw (length-ups x, length-ups y) eb

      pub sizes-1 : b ≡ false → (1 ≡ desk_number ws D Q) × (D ≡ desk_drawing ws D Q)
      sizes-1 t = says-1 ws D Q (sym lent_is ∙ t)

      pub sizes-fit : b ≡ true → (DESK ≤ length ws) × ((320 ≤ length nets) × (512 ≤ length x) × (512 ≤ length y) × (512 ≤ length kinds) × (768 ≤ length joins))
      sizes-fit t =
          let all = sym eb ∙ t in
          let lists = and_right (leb DESK (length ws)) _ all in
          let rest = and_right (leb 320 (length nets)) _ lists in
          let places = and_left (leb 512 (length x) && leb 512 (length y)) _ rest in
          let others = and_right (leb 512 (length x) && leb 512 (length y)) _ rest in
          (leb-true _ _ (and_left (leb DESK (length ws)) _ all), (leb-true _ _ (and_left (leb 320 (length nets)) _ lists), leb-true _ _ (and_left (leb 512 (length x)) _ places), leb-true _ _ (and_right (leb 512 (length x)) _ places), leb-true _ _ (and_left (leb 512 (length kinds)) _ others), leb-true _ _ (and_right (leb 512 (length kinds)) _ others)))

      module _ (t : b ≡ true) (r : ℕ) (er : r ≡ tested (seen_of ws) Q) where
        pub sizes-number : r ≡ desk_number ws D Q
        sizes-number = number_on ws D Q (sym lent_is ∙ t) r er

        pub sizes-lists : (p : Drawing) → p ≡ left r (book_of ws).lists Q D → p ≡ desk_drawing ws D Q
        sizes-lists p ep = drawing_on ws D Q (sym lent_is ∙ t) r er p ep

module _ (ws : List ℕ) (Q : Choice) (D : Drawing) where
  module _ (n : ℕ) (long : DESK ≤ length ws) (is : n ≡ sized ws (answer (valid (book_of ws)) 0 0)) where
    pub lent-2 : (n ≡ 0 → ⊥) → (p : Drawing) → p ≡ zeros D → (2 ≡ tested (seen_of ws) Q) × (p ≡ left 2 (book_of ws).lists Q D)
    lent-2 z p ep = refused-desk (seen_of ws) Q D (unsound-at ws n is long z) p ep

    module _ (z : n ≡ 0) where
      pub lent-2c : ok_choice Q ≡ false → (p : Drawing) → p ≡ zeros D → (2 ≡ tested (seen_of ws) Q) × (p ≡ left 2 (book_of ws).lists Q D)
      lent-2c e p ep = refused-choice (seen_of ws) Q D (sound-at ws n is z).book e p ep

      pub lent-on : ok_choice Q ≡ true → (r : ℕ) → r ≡ layout_number (book_of ws).lists → r ≡ tested (seen_of ws) Q
      lent-on e r er = passed (seen_of ws) Q D (sound-at ws n is z).book e r er

  module _ (v : valid (book_of ws) ≡ true) (R : Records) (page : R ≡ page_of (book_of ws).lists) where
    pub valid-asks : Asked R × (Placed R × ((R.net_count ≤ 64) × (R.end_count ≤ 256)))
    valid-asks =
        let ok = lists-ok (book_of ws) v in
        (rw page (asked (book_of ws).lists ok), (rw page (placed (book_of ws).lists ok), (rw page (few_nets (book_of ws).lists ok), rw page (few-ends (book_of ws).lists ok))))

    pub valid-on : (r : ℕ) (p : Drawing) → r ≡ page_number R → p ≡ laid R (is_pruned Q) (is_apart Q) D
        → (r ≡ layout_number (book_of ws).lists) × (p ≡ left r (book_of ws).lists Q D)
    valid-on r p e₁ e₂ = (page-number (book_of ws).lists _ page r e₁, page-left (book_of ws).lists _ page Q D p r e₁ e₂)
