-- A text has one first fault, and none where it writes a trace.
use Rattle.std.proofs.Common.{◌≡◌, ℕ, ◌+◌, List, [], ◌∷◌, ◌++◌, map, length, Some, None, Option, sym, refl, ap, ◌∙◌, subst, append_assoc, append-nil, arith, length-append}
use Rattle.base.specs.declared.refusal.Refusal.{Refusal}
use Rattle.base.specs.declared.refusal.Refusal.TheVariants.{OutOfPlace}
use Rattle.classes.specs.declared.draft.Draft.{Draft}
use Rattle.std.specs.Option.{option_to_list}
use Rattle.std.specs.List.{AllByRecursion}
use Rattle.std.proofs.lemmas.List.{length-map, map-append}
use Rattle.text.specs.declared.kind.Kind.{Kind}
use Rattle.text.specs.declared.line.Line.{Line}
use Rattle.text.specs.declared.line.Line.TheVariants.{Class, Link, Outage, Event as event}
use Rattle.text.specs.Lines.{written, Proper}
use Rattle.text.specs.Texts.{ended}
use Rattle.text.proofs.Ends.{cut_once, title_free, written_free}
use Rattle.text.proofs.Forms.{heads, tails}
use Rattle.text.proofs.Once.{said, written_once}
use Rattle.trace.specs.declared.fault.Fault.{Fault}
use Rattle.trace.specs.declared.trace.Trace.{Trace}
use Rattle.trace.specs.Faults.{fault}
use Rattle.trace.specs.Makings.{named_by, outage_of, rate_of, refusal}
use Rattle.trace.specs.Parts.{part, may_follow}
use Rattle.trace.specs.Traces.{After, Fine, Takes, Right, Wrong, misformed, misplaced, refused, Told, too_long, untitled, wrong, unrated, Written}
use Rattle.trace.proofs.Same.{Same, same_bare, leads_same, refusal_same}

-- no bytes are left, so none is a line
no_line : (w more : List ℕ) → [] ≡ w ++ 10 ∷ more → ⊥
no_line w more e = omega (arith, ap length e ∙ length-append w (10 ∷ more))

-- lines that say the same
part_said : (l : Line) → part l ≡ part (said l)
part_said (Class n p w) = refl
part_said (Link r) = refl
part_said (Outage o k) = refl
part_said (event e) = refl

part_same : (l m : Line) → said l ≡ said m → part l ≡ part m
part_same l m e = part_said l ∙ ap part e ∙ sym (part_said m)

rate_said : (l : Line) → rate_of l ≡ rate_of (said l)
rate_said (Class n p w) = refl
rate_said (Link r) = refl
rate_said (Outage o k) = refl
rate_said (event e) = refl

outage_said : (l : Line) → outage_of l ≡ outage_of (said l)
outage_said (Class n p w) = refl
outage_said (Link r) = refl
outage_said (Outage o k) = refl
outage_said (event e) = refl

-- .. name the same
module _ {X : Type 0} (f : Line → Option X) (kept : (l : Line) → f l ≡ f (said l)) where
  named_said : (ls : List Line) → named_by f ls ≡ named_by f (map said ls)
  named_said [] = refl
  named_said (l ∷ ls) = λ i. option_to_list (kept l i) ++ named_said ls i

  named_same : (ls ms : List Line) → map said ls ≡ map said ms → named_by f ls ≡ named_by f ms
  named_same ls ms e = named_said ls ∙ ap (named_by f) e ∙ sym (named_said ms)

-- .. and stand in the same order
after_same : (l m : Line) → said l ≡ said m → (ls ms : List Line) → map said ls ≡ map said ms → AllByRecursion (After l) ls → AllByRecursion (After m) ms
after_same l m e [] [] f h = tt
after_same l m e [] (y ∷ ms) f h = absurd (omega (arith, ap length f))
after_same l m e (x ∷ ls) [] f h = absurd (omega (arith, ap length f))
after_same l m e (x ∷ ls) (y ∷ ms) f h =
    let one : may_follow (part m) (part y) ≡ may_follow (part l) (part x) = sym (λ i. may_follow (part_same l m e i) (part_same x y (heads _ _ _ _ f) i)) in
    (one ∙ h.0, after_same l m e ls ms (tails _ _ _ _ f) h.1)

same_length : (ls ms : List Line) → map said ls ≡ map said ms → length ls ≡ length ms
same_length ls ms e = sym (length-map ls said) ∙ ap length e ∙ length-map ms said

-- two texts of equal bytes begin with lines that say the same
first_same : (l m : Line) (more more' : List ℕ) → Proper l → Proper m → written l ++ 10 ∷ more ≡ written m ++ 10 ∷ more' → (said l ≡ said m) × (more ≡ more')
first_same l m more more' p q e =
    let cut = cut_once 10 _ _ _ _ (written_free l p) (written_free m q) e in
    (written_once l m p q cut.0, cut.1)

module _ (ls ms : List Line) (alike : map said ls ≡ map said ms) (c d : Draft) (same : Same c d) (l m : Line) (says : said l ≡ said m) where
  refuses_same : refusal c.table (named_by outage_of ls) l ≡ refusal d.table (named_by outage_of ms) m
  refuses_same = refusal_same c d same l m says (named_by outage_of ls) ∙ ap (λ os. refusal d.table os m) (named_same outage_of outage_said ls ms alike)

  fine_same : Fine ls c l → Proper m → Fine ms d m
  fine_same fine q = record { form = q; order = after_same l m says ls ms alike fine.order; taken = sym refuses_same ∙ fine.taken }

-- what two readings of one text have in common: all, or one of them goes on where the other stops
data Meets (ls : List Line) (d : Draft) (rest : List ℕ) (ms : List Line) (d' : Draft) (rest' : List ℕ) : Type 0 where
  even : map said ls ≡ map said ms → Same d d' → rest ≡ rest' → Meets ls d rest ms d' rest'
  short : (m : Line) (more : List ℕ) → rest ≡ written m ++ 10 ∷ more → Fine ls d m → Meets ls d rest ms d' rest'
  long : (l : Line) (more : List ℕ) → rest' ≡ written l ++ 10 ∷ more → Fine ms d' l → Meets ls d rest ms d' rest'

begins : (l : Line) (ls : List Line) (rest : List ℕ) → ended (l ∷ ls) ++ rest ≡ written l ++ 10 ∷ (ended ls ++ rest)
begins l ls rest = append_assoc (written l ++ 10 ∷ []) (ended ls) rest ∙ append_assoc (written l) (10 ∷ []) (ended ls ++ rest)

itself : (d : Draft) → Same d d
itself d = record { count = refl; parents = λ k. refl; names = λ k. refl }

swapped : (c d : Draft) → Same c d → Same d c
swapped c d same = record { count = sym same.count; parents = λ k. sym (same.parents k); names = λ k. sym (same.names k) }

module _ (d d' : Draft) (rest rest' : List ℕ) where
  meets : (ls ms before before' : List Line) (c c' : Draft) → map said before ≡ map said before' → Same c c' → Takes before c ls d → Takes before' c' ms d' → ended ls ++ rest ≡ ended ms ++ rest' → Meets (before ++ ls) d rest (before' ++ ms) d' rest'
  meets [] [] before before' c c' alike same x y e =
      even (ap (map said) (append-nil before) ∙ alike ∙ sym (ap (map said) (append-nil before'))) (subst (Same d) (sym y) (subst (λ z. Same z c') (sym x) same)) e
  meets [] (m ∷ ms) before before' c c' alike same x y e =
      short m (ended ms ++ rest') (e ∙ begins m ms rest')
      (subst (λ b. Fine b d m) (sym (append-nil before)) (subst (λ z. Fine before z m) (sym x) (fine_same before' before (sym alike) c' c (swapped c c' same) m m refl y.0 y.0.form)))
  meets (l ∷ ls) [] before before' c c' alike same x y e =
      long l (ended ls ++ rest) (sym e ∙ begins l ls rest)
      (subst (λ b. Fine b d' l) (sym (append-nil before')) (subst (λ z. Fine before' z l) (sym y) (fine_same before before' alike c c' same l l refl x.0 x.0.form)))
  meets (l ∷ ls) (m ∷ ms) before before' c c' alike same x y e =
      let one = first_same l m _ _ x.0.form y.0.form (sym (begins l ls rest) ∙ e ∙ begins m ms rest') in
      let more : map said (before ++ l ∷ []) ≡ map said (before' ++ m ∷ []) = map-append said before (l ∷ []) ∙ (λ i. alike i ++ one.0 i ∷ []) ∙ sym (map-append said before' (m ∷ [])) in
      let go = meets ls ms (before ++ l ∷ []) (before' ++ m ∷ []) x.1.0 y.1.0 more (leads_same c c' same l m one.0 x.1.0 y.1.0 x.1.1 y.1.1) x.1.2 y.1.2 one.1 in
      subst (λ b. Meets (before ++ l ∷ ls) d rest b d' rest') (append_assoc before' (m ∷ []) ms) (subst (λ b. Meets b d rest ((before' ++ m ∷ []) ++ ms) d' rest') (append_assoc before (l ∷ []) ls) go)

module _ (bs : List ℕ) where
  right_meets : (k k' : Kind) (ls ms : List Line) (rest rest' : List ℕ) (d d' : Draft) → Right bs k ls rest d → Right bs k' ms rest' d' → Meets ls d rest ms d' rest'
  right_meets k k' ls ms rest rest' d d' x y =
      let cut = cut_once 10 _ _ _ _ (title_free k) (title_free k') (x.whole ∙ sym y.whole) in
      meets d d' rest rest' ls ms [] [] x.root y.root refl (same_bare x.root y.root x.bare y.bare) x.taken y.taken cut.1

-- a wrong line does not stand rightly
not_fine : (ls : List Line) (d : Draft) (rest : List ℕ) (e : Refusal) (m : Line) (more : List ℕ) → Wrong ls d rest e → rest ≡ written m ++ 10 ∷ more → Fine ls d m → ⊥
not_fine ls d rest e m more (misformed bad) cut fine = bad.none m more fine.form (sym cut)
not_fine ls d rest e m more (misplaced l more' cut' p not) cut fine =
    let one = first_same l m _ _ p fine.form (sym cut' ∙ cut) in
    not (after_same m l (sym one.0) ls ls refl fine.order)
not_fine ls d rest e m more (refused l more' r cut' p after is) cut fine =
    let one = first_same l m _ _ p fine.form (sym cut' ∙ cut) in
    let both : None ≡ Some r = sym fine.taken ∙ sym (refuses_same ls ls refl d d (itself d) l m one.0) ∙ is in
    cc

-- two readings that stop at the same bytes stop for the same reason
same_refusal : (ls ms : List Line) (c d : Draft) (rest rest' : List ℕ) (e r : Refusal) → map said ls ≡ map said ms → Same c d → rest ≡ rest' → Wrong ls c rest e → Wrong ms d rest' r → e ≡ r
same_refusal ls ms c d rest rest' _ _ alike same at (misformed x) (misformed y) = refl
same_refusal ls ms c d rest rest' _ _ alike same at (misformed x) (misplaced m more cut q not) = absurd (x.none m more q (sym cut ∙ sym at))
same_refusal ls ms c d rest rest' _ _ alike same at (misformed x) (refused m more r cut q after is) = absurd (x.none m more q (sym cut ∙ sym at))
same_refusal ls ms c d rest rest' _ _ alike same at (misplaced l more cut p not) (misformed y) = absurd (y.none l more p (sym cut ∙ at))
same_refusal ls ms c d rest rest' _ _ alike same at (misplaced l more cut p not) (misplaced m more' cut' q not') = refl
same_refusal ls ms c d rest rest' _ _ alike same at (misplaced l more cut p not) (refused m more' r cut' q after is) =
    absurd (not (after_same m l (first_same m l _ _ q p (sym cut' ∙ sym at ∙ cut)).0 ms ls (sym alike) after))
same_refusal ls ms c d rest rest' _ _ alike same at (refused l more e cut p after is) (misformed y) = absurd (y.none l more p (sym cut ∙ at))
same_refusal ls ms c d rest rest' _ _ alike same at (refused l more e cut p after is) (misplaced m more' cut' q not) =
    absurd (not (after_same l m (first_same l m _ _ p q (sym cut ∙ at ∙ cut')).0 ls ms alike after))
same_refusal ls ms c d rest rest' _ _ alike same at (refused l more e cut p after is) (refused m more' r cut' q after' is') =
    let one = first_same l m _ _ p q (sym cut ∙ at ∙ cut') in
    let both : Some e ≡ Some r = sym is ∙ refuses_same ls ms alike c d same l m one.0 ∙ is' in
    cc

-- a text that ends has no wrong line
not_wrong : (ls : List Line) (d : Draft) (rest : List ℕ) (e : Refusal) → rest ≡ [] → Wrong ls d rest e → ⊥
not_wrong ls d rest _ end (misformed x) = omega (arith, x.some, ap length end)
not_wrong ls d rest _ end (misplaced l more cut p not) = no_line (written l) more (sym end ∙ cut)
not_wrong ls d rest _ end (refused l more e cut p after is) = no_line (written l) more (sym end ∙ cut)

module _ (bs : List ℕ) where
  -- a text that is right to its end has no wrong line
  wrong_not_right : (k k' : Kind) (ls ms : List Line) (rest : List ℕ) (d d' : Draft) (e : Refusal) → Right bs k ls rest d → Wrong ls d rest e → Right bs k' ms [] d' → ⊥
  wrong_not_right k k' ls ms rest d d' e x bad y =
      elim (right_meets bs k k' ls ms rest [] d d' x y) [
        | even alike same end ↦ not_wrong ls d rest e end bad
        | short m more cut fine ↦ not_fine ls d rest e m more bad cut fine
        | long l more cut fine ↦ no_line (written l) more cut
      ]

  -- lines that are right to the end say the same
  right_once : (k k' : Kind) (ls ms : List Line) (d d' : Draft) → Right bs k ls [] d → Right bs k' ms [] d' → map said ls ≡ map said ms
  right_once k k' ls ms d d' x y =
      elim (right_meets bs k k' ls ms [] [] d d' x y) [
        | even alike same end ↦ alike
        | short m more cut fine ↦ absurd (no_line (written m) more cut)
        | long l more cut fine ↦ absurd (no_line (written l) more cut)
      ]

  wrong_once : (k k' : Kind) (ls ms : List Line) (rest rest' : List ℕ) (d d' : Draft) (e r : Refusal) → Right bs k ls rest d → Wrong ls d rest e → Right bs k' ms rest' d' → Wrong ms d' rest' r → fault (length ls + 2) e ≡ fault (length ms + 2) r
  wrong_once k k' ls ms rest rest' d d' e r x bad y bad' =
      elim (right_meets bs k k' ls ms rest rest' d d' x y) [
        | even alike same end ↦ λ i. fault (same_length ls ms alike i + 2) (same_refusal ls ms d d' rest rest' e r alike same end bad bad' i)
        | short m more cut fine ↦ absurd (not_fine ls d rest e m more bad cut fine)
        | long l more cut fine ↦ absurd (not_fine ms d' rest' r l more bad' cut fine)
      ]

  pub told_once : (f g : Fault) → Told bs f → Told bs g → f ≡ g
  told_once _ _ (too_long h) (too_long h') = refl
  told_once _ _ (too_long h) (untitled s u) = absurd (omega arith)
  told_once _ _ (too_long h) (wrong k ls rest d e x bad) = absurd (omega (arith, x.short))
  told_once _ _ (too_long h) (unrated k ls d x none) = absurd (omega (arith, x.short))
  told_once _ _ (untitled s u) (too_long h) = absurd (omega arith)
  told_once _ _ (untitled s u) (untitled s' u') = refl
  told_once _ _ (untitled s u) (wrong k ls rest d e x bad) = absurd (u k (ended ls ++ rest) x.whole)
  told_once _ _ (untitled s u) (unrated k ls d x none) = absurd (u k (ended ls ++ []) x.whole)
  told_once _ _ (wrong k ls rest d e x bad) (too_long h) = absurd (omega (arith, x.short))
  told_once _ _ (wrong k ls rest d e x bad) (untitled s u) = absurd (u k (ended ls ++ rest) x.whole)
  told_once _ _ (wrong k ls rest d e x bad) (wrong k' ms rest' d' r y bad') = wrong_once k k' ls ms rest rest' d d' e r x bad y bad'
  told_once _ _ (wrong k ls rest d e x bad) (unrated k' ms d' y none) = absurd (wrong_not_right k k' ls ms rest d d' e x bad y)
  told_once _ _ (unrated k ls d x none) (too_long h) = absurd (omega (arith, x.short))
  told_once _ _ (unrated k ls d x none) (untitled s u) = absurd (u k (ended ls ++ []) x.whole)
  told_once _ _ (unrated k ls d x none) (wrong k' ms rest' d' r y bad') = absurd (wrong_not_right k' k ms ls rest' d' d r y bad' x)
  told_once _ _ (unrated k ls d x none) (unrated k' ms d' y none') = ap (λ n. fault (n + 1) OutOfPlace) (same_length ls ms (right_once k k' ls ms d d' x y))

  pub told_not_written : (f : Fault) (t : Trace) → Told bs f → Written bs t → ⊥
  told_not_written _ t (too_long h) y = omega (arith, y.right.short)
  told_not_written _ t (untitled s u) y = u t.kind (ended y.lines ++ []) y.right.whole
  told_not_written _ t (wrong k ls rest d e x bad) y = wrong_not_right k t.kind ls y.lines rest d t.draft e x bad y.right
  told_not_written _ t (unrated k ls d x none) y =
      let rates : [] ≡ t.link.below.rate ∷ [] = sym none ∙ named_same rate_of rate_said ls y.lines (right_once k t.kind ls y.lines d t.draft x y.right) ∙ y.linked.rate in
      omega (arith, ap length rates)
