-- Drafts that mean the same refuse the same, and stay so.
use Rattle.std.proofs.Common.{◌≡◌, ℕ, zero, suc, ◌+◌, cond, not, ◌&&◌, eqb, leb, List, [], ◌∷◌, is_some, Some, sym, refl, ap, ◌∙◌, subst}
use Rattle.base.specs.declared.refusal.Refusal.TheVariants.{TreeFull, UnknownParent, BadWeight, BadName, NameTaken, TooDeep}
use Rattle.classes.specs.declared.class.Class.{Class as Row}
use Rattle.classes.specs.declared.draft.Draft.{Draft}
use Rattle.classes.specs.Additions.{addition, answer_by, Grown}
use Rattle.classes.specs.Rows.{name_at, named_below}
use Rattle.classes.specs.Shapes.{steps, depth}
use Rattle.classes.specs.Tables.{class_count, shape_of, name_of, named}
use Rattle.classes.specs.Words.{is_name}
use Rattle.links.specs.declared.outage.Outage.{Outage as OneOutage}
use Rattle.rules.specs.Rules.{first}
use Rattle.rules.specs.Shape.{Shape}
use Rattle.std.specs.Result.{result_err}
use Rattle.std.specs.Str.{bytes_eq}
use Rattle.text.specs.declared.line.Line.{Line}
use Rattle.text.specs.declared.line.Line.TheVariants.{Class, Link, Outage, Event as event}
use Rattle.text.proofs.Once.{said}
use Rattle.trace.specs.Makings.{Bare, Leads, refusal, numbered, parent_of}

-- as far as an addition looks at them
pub record Same (c d : Draft) : Type 0 where
  pub count : class_count c.table ≡ class_count d.table
  pub parents : (k : ℕ) → (shape_of c.table).parent k ≡ (shape_of d.table).parent k
  pub names : (k : ℕ) → name_of c.table k ≡ name_of d.table k

pub same_bare : (c d : Draft) → Bare c → Bare d → Same c d
same_bare c d x y = record { count = x.count ∙ sym y.count; parents = λ k. (x.rows k).parent ∙ sym (y.rows k).parent; names = λ k. (x.rows k).name ∙ sym (y.rows k).name }

steps_same : (s t : Shape) → ((k : ℕ) → s.parent k ≡ t.parent k) → (n c : ℕ) → steps s n c ≡ steps t n c
steps_same s t h zero c = refl
steps_same s t h (suc n) c = ap (λ x. cond (eqb c 0) 0 (suc x)) (steps_same s t h n (s.parent c) ∙ ap (steps t n) (h c))

named_same : (cs ds : List Row) → ((k : ℕ) → name_at cs k ≡ name_at ds k) → (w : List ℕ) (n : ℕ) → named_below cs w n ≡ named_below ds w n
named_same cs ds h w zero = refl
named_same cs ds h w (suc n) = λ i. cond (bytes_eq (h n i) w) (Some n) (named_same cs ds h w n i)

module _ (c d : Draft) (same : Same c d) where
  finds_same : (w : List ℕ) → named c.table w ≡ named d.table w
  finds_same w = named_same c.table.classes.items d.table.classes.items same.names w (class_count c.table) ∙ ap (named_below d.table.classes.items w) same.count

  parent_same : (w : List ℕ) → parent_of c.table w ≡ parent_of d.table w
  parent_same w = ap numbered (finds_same w)

  addition_same : (p w : ℕ) (n : List ℕ) → addition c.table p w n ≡ addition d.table p w n
  addition_same p w n =
      let deep : depth (shape_of c.table) p ≡ depth (shape_of d.table) p = steps_same (shape_of c.table) (shape_of d.table) same.parents p p in
      λ i.
      answer_by
      (first ((leb 64 (same.count i), TreeFull) ∷ (not (is_name n), BadName) ∷ (is_some (finds_same n i), NameTaken) ∷ (leb (same.count i) p, UnknownParent) ∷ (eqb (deep i) 7, TooDeep) ∷ (not (leb 1 w && leb w 16), BadWeight) ∷ []))
      (same.count i)

  -- the same line meets the same refusal
  refusal_draft : (os : List OneOutage) (l : Line) → refusal c.table os l ≡ refusal d.table os l
  refusal_draft os (Class n p w) = ap result_err (addition_same (parent_of c.table p.now) w n.now ∙ ap (λ k. addition d.table k w n.now) (parent_same p.now))
  refusal_draft os (Link r) = refl
  refusal_draft os (Outage o k) = refl
  refusal_draft os (event e) = refl

  grown_same : (p q w : ℕ) (n : List ℕ) (c' d' : Draft) → p ≡ q → Grown c.table p w n c'.table → Grown d.table q w n d'.table → Same c' d'
  grown_same p q w n c' d' e x y = record {
    count = x.count ∙ ap (λ k. k + 1) same.count ∙ sym y.count;
    parents = λ k. x.parents k ∙ (λ i. cond (eqb k (same.count i)) (e i) (same.parents k i)) ∙ sym (y.parents k);
    names = λ k. x.names k ∙ (λ i. cond (eqb k (same.count i)) n (same.names k i)) ∙ sym (y.names k);
  }

  -- .. and leads to drafts that mean the same
  leads_draft : (l : Line) (c' d' : Draft) → Leads c l c' → Leads d l d' → Same c' d'
  leads_draft (Class n p w) c' d' x y = grown_same (parent_of c.table p.now) (parent_of d.table p.now) w n.now c' d' (parent_same p.now) x.1 y.1
  leads_draft (Link r) c' d' x y = subst (Same c') (sym y) (subst (λ z. Same z d) (sym x) same)
  leads_draft (Outage o k) c' d' x y = subst (Same c') (sym y) (subst (λ z. Same z d) (sym x) same)
  leads_draft (event e) c' d' x y = subst (Same c') (sym y) (subst (λ z. Same z d) (sym x) same)

refusal_said : (d : Draft) (os : List OneOutage) (l : Line) → refusal d.table os l ≡ refusal d.table os (said l)
refusal_said d os (Class n p w) = refl
refusal_said d os (Link r) = refl
refusal_said d os (Outage o k) = refl
refusal_said d os (event e) = refl

leads_said : (c : Draft) (l : Line) (d : Draft) → Leads c l d → Leads c (said l) d
leads_said c (Class n p w) d h = h
leads_said c (Link r) d h = h
leads_said c (Outage o k) d h = h
leads_said c (event e) d h = h

module _ (c d : Draft) (same : Same c d) (l m : Line) (says : said l ≡ said m) where
  pub leads_same : (c' d' : Draft) → Leads c l c' → Leads d m d' → Same c' d'
  leads_same c' d' x y = leads_draft c d same (said l) c' d' (leads_said c l c' x) (subst (λ z. Leads d z d') (sym says) (leads_said d m d' y))

  pub refusal_same : (os : List OneOutage) → refusal c.table os l ≡ refusal d.table os m
  refusal_same os = refusal_draft c d same os l ∙ refusal_said d os l ∙ ap (refusal d.table os) says ∙ sym (refusal_said d os m)
