-- The finish tags of a node's children are cleared one after another, in the order in which the class table lists them.
use Rattle.std.proofs.Common.{◌≡◌, ℕ, suc, ◌<◌, ◌≤◌, Bool, true, false, cond, ◌&&◌, ltb, leb, List, length, set, Some, None, Option, sym, refl, ap, ◌∙◌, subst, inl, inr, arith}
use mathlib.Core.Bool.{and-true}
use Rattle.std.proofs.lemmas.Bool.{both_ways, cases_Bool, cases_eq, cases_lt, eq-eqb, ne_eqb, lt-ltb, le-leb, lt-leb, and_left, and_right}
use Rattle.rules.specs.Shape.{Shape, Sound, child}
use Rattle.rules.proofs.Tree.{child_decides}
use Rattle.classes.specs.Shapes.{child_below}
use Rattle.classes.proofs.Shapes.{Last, below_last}
use Rattle.tree.specs.Loads.{load}
use Rattle.tree.specs.Walks.{rested}
use Rattle.tree.specs.declared.load.Load.{Load}
use Rattle.tree.proofs.Paths.{to_come}
use Rattle.tree.proofs.Writes.{written}

-- the load l with the finish tag 0 where `f`
abbrev cleared : Bool → Load → Load
cleared f l = record { backlog = l.backlog; start = l.start; finish = record { 0 = cond f 0 l.finish.0 }; vtime = l.vtime }

-- the children from class n on are cleared, and `next` is the last one before
pub record Clearing (t : Shape) (node : ℕ) (ls ms : List Load) (next : Option ℕ) : Type 0 where
  pub n : ℕ
  pub few : n ≤ t.count
  pub list : next ≡ child_below t node n
  pub loads : (k : ℕ) → load ms k ≡ cleared (child t node k && leb n k) (load ls k)

blank_same : (b : Bool) (x : ℕ) → x ≡ 0 → x ≡ cond b 0 x
blank_same true x z = z
blank_same false x z = refl

module _ {t : Shape} (ok : Sound t) (node : ℕ) (ls : List Load) where
  -- rows past the tree are blank
  pub clearing_none : (next : Option ℕ) → next ≡ child_below t node t.count → ((k : ℕ) → t.count ≤ k → (load ls k).finish.0 ≡ 0) → Clearing t node ls ls next
  clearing_none next is blank = record {
    n = t.count;
    few = omega arith;
    list = is;
    loads = λ k. elim (cases_lt k t.count) [
      | inl l ↦ (λ i. cleared (sym (and_right (child t node k) (leb t.count k) (lt-leb t.count k l)) i) (load ls k))
      | inr l ↦ (λ i. record { backlog = (load ls k).backlog; start = (load ls k).start; finish = record { 0 = blank_same (child t node k && leb t.count k) (load ls k).finish.0 (blank k l) i }; vtime = (load ls k).vtime })
    ];
  }

  module _ (ms : List Load) (next : Option ℕ) (was : Clearing t node ls ms next) where
    -- once none is left, all are cleared
    all : next ≡ None → (k : ℕ) → load ms k ≡ cleared (child t node k) (load ls k)
    all is k =
        let none : (j : ℕ) → j < was.n → child t node j ≡ false = subst (Last t node was.n) (sym was.list ∙ is) (below_last t node was.n) in
        let each : (child t node k && leb was.n k) ≡ child t node k = elim (cases_lt k was.n) [
          | inl l ↦ and_left (child t node k) (leb was.n k) (none k l) ∙ sym (none k l)
          | inr l ↦ ap (λ b. child t node k && b) (le-leb was.n k l) ∙ and-true (child t node k)
        ] in
        was.loads k ∙ (λ i. cleared (each i) (load ls k))

    -- and the virtual time is 0 last
    pub clearing_all : next ≡ None → (x : Load) → node < length ms → x ≡ record { backlog = (load ms node).backlog; start = (load ms node).start; finish = (load ms node).finish; vtime = record { 0 = 0 } } → (k : ℕ) → load (set ms node x) k ≡ rested t ls node k
    clearing_all is x low made k = written ms node x low k ∙ elim (cases_eq node k) [
      | inl e ↦ rw (eq-eqb node k e) (made ∙ (λ i. let l : Load = (ap (load ms) e ∙ all is k) i in record { backlog = l.backlog; start = l.start; finish = l.finish; vtime = record { 0 = 0 } }))
      | inr e ↦ rw (ne_eqb node k e) (all is k)
    ]

    module _ (c : ℕ) (is : next ≡ Some c) where
      last : (c < was.n) × (child t node c ≡ true) × ((k : ℕ) → c < k → k < was.n → child t node k ≡ false)
      last = subst (Last t node was.n) (sym was.list ∙ is) (below_last t node was.n)

      pub child_known : c < t.count
      child_known = let (low, kid, none) = last in let few = was.few in omega arith

      -- the child that is listed after c
      listed : (next' : Option ℕ) → next' ≡ cond (ltb c t.count) (child_below t (t.parent c) c) None → next' ≡ child_below t node c
      listed next' e = e ∙ ap (λ b. cond b (child_below t (t.parent c) c) None) (lt-ltb c t.count child_known) ∙ ap (λ p. child_below t p c) ((child_decides t node c).0 last.1).1

      pub child_falls : (next' : Option ℕ) → next' ≡ cond (ltb c t.count) (child_below t (t.parent c) c) None → to_come next' < to_come next
      child_falls next' e = rw (is, listed next' e) (low (child_below t node c) (below_last t node c))
        where
          low : (o : Option ℕ) → Last t node c o → to_come o < suc c
          low None none = omega arith
          low (Some k) (less, kid, none) = omega arith

      pub clearing_more : (x : Load) (next' : Option ℕ) → c < length ms → x ≡ cleared true (load ms c) → next' ≡ cond (ltb c t.count) (child_below t (t.parent c) c) None → Clearing t node ls (set ms c x) next'
      clearing_more x next' low made e = record {
        n = c;
        few = let l = child_known in omega arith;
        list = listed next' e;
        loads = λ k. written ms c x low k ∙ elim (cases_eq c k) [
          | inl z ↦
              let on : (child t node k && leb c k) ≡ true = rw (sym (ap (child t node) z) ∙ last.1) (le-leb c k (omega arith)) in
              rw (eq-eqb c k z) (made ∙ ap (λ j. cleared true (load ms j)) z ∙ ap (cleared true) (was.loads k) ∙ (λ i. cleared (sym on i) (load ls k)))
          | inr z ↦
              let alike : (child t node k && leb was.n k) ≡ (child t node k && leb c k) = elim (cases_Bool (child t node k)) [
                | inl kid ↦ rw kid (elim (cases_lt c k) [
                  | inl above ↦ elim (cases_lt k was.n) [
                    | inl l ↦ absurd (both_ways (child t node k) (last.2 k above l) kid)
                    | inr l ↦ le-leb was.n k l ∙ sym (le-leb c k (omega arith))
                  ]
                  | inr below ↦ let less = last.0 in lt-leb was.n k (omega arith) ∙ sym (lt-leb c k (omega arith))
                ])
                | inr off ↦ and_left (child t node k) (leb was.n k) off ∙ sym (and_left (child t node k) (leb c k) off)
              ] in
              rw (ne_eqb c k z) (was.loads k ∙ (λ i. cleared (alike i) (load ls k)))
        ];
      }
