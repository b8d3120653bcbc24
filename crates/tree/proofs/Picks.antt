-- The way down by a store that holds the backlogged classes is the way that a dispatch goes by the rules. Assumes nothing.
use Rattle.std.proofs.Common.{◌≡◌, ℕ, zero, suc, ◌<◌, Bool, true, false, cond, ◌&&◌, ltb, Some, None, Option, sym, refl, ap, ◌∙◌, inl, inr, arith}
use Rattle.std.proofs.lemmas.Bool.{cases_Bool, cond-true, cond-false, and_parts, and_from, lt-ltb, ltb-true, both_ways}
use Rattle.base.specs.declared.units.Parts.{Parts}
use Rattle.rules.specs.Shape.{Sound, child, leaf}
use Rattle.rules.specs.State.{State, backlogged, next, descend, picked}
use Rattle.rules.specs.Picks.{Best}
use Rattle.rules.proofs.Tests.{not_some}
use Rattle.rules.proofs.Tree.{child_decides, root_above, no_leaf}
use Rattle.rules.proofs.Backlog.{busy_known, busy_above}
use Rattle.rules.proofs.Picks.{best_next, goes_on}
use Rattle.tags.specs.Held.{Held, least_of, Looks}
use Rattle.tags.proofs.Uses.{least_looks, some_tag, some_group}
use Rattle.tree.specs.Walks.{child_or, down, below_root, pick}

-- what stands in the store for class k in state s: a backlogged class but the root, under its parent, with its start tag
abbrev pub pair_of : {I : Type 0} → State I → ℕ → Option (ℕ × Parts)
pair_of s k = cond (ltb 0 k && backlogged s k) (Some (s.shape.parent k, record { 0 = s.tags.start k })) None

pair_is : (b : Bool) (p g : ℕ) (u v : Parts) → cond {A = Option (ℕ × Parts)} b (Some (p, u)) None ≡ Some (g, v) → (b ≡ true) × (p ≡ g) × (u.0 ≡ v.0)
pair_is true p g u v e = (refl, some_group (Some (p, u)) p g u v refl e, sym (some_tag (Some (p, u)) p g u v refl e))
pair_is false p g u v e = absurd (not_some e)

module _ {I : Type 0} (s : State I) (ok : Sound s.shape) (leaves : (l : ℕ) → 0 < s.queued l → leaf s.shape l ≡ true)
    (h : Held) (stands : (k : ℕ) → h k ≡ pair_of s k) where
  -- what the store holds under a node is a backlogged child of it
  stands_in : (node c : ℕ) (u : Parts) → h c ≡ Some (node, u) → (child s.shape node c ≡ true) × (backlogged s c ≡ true) × (s.tags.start c ≡ u.0)
  stands_in node c u e =
      let (b, is, start) = pair_is (ltb 0 c && backlogged s c) (s.shape.parent c) node (record { 0 = s.tags.start c }) u (sym (stands c) ∙ e) in
      let (pos, busy) = and_parts (ltb 0 c) (backlogged s c) b in
      ((child_decides s.shape node c).1 (ltb-true 0 c pos, is), busy, start)

  -- and each such child is there
  held : (node c : ℕ) → child s.shape node c ≡ true → backlogged s c ≡ true → h c ≡ Some (node, record { 0 = s.tags.start c })
  held node c kid busy =
      let (pos, is) = (child_decides s.shape node c).0 kid in
      stands c ∙ cond-true (ltb 0 c && backlogged s c) _ None (and_from _ _ (lt-ltb 0 c pos) busy) ∙ ap (λ p. Some (p, record { 0 = s.tags.start c })) is

  known : (c : ℕ) → backlogged s c ≡ true → c < 64
  known c b = omega (arith, busy_known ok s.queued c b, ok.few)

  -- the least of a backlogged node is its best child
  least_best : (node : ℕ) (o : Option (ℕ × Parts)) → Looks h node 64 o → backlogged s node ≡ true → leaf s.shape node ≡ false → (p : ℕ × Parts) × (o ≡ Some p) × (p.0 ≡ next s node)
  least_best node None looks b inner =
      let g = goes_on s ok leaves node b inner in
      absurd (looks (next s node) _ (known (next s node) g.busy) (held node (next s node) g.kid g.busy))
  least_best node (Some p) looks b inner =
      let (kid, busy, start) = stands_in node p.0 p.1 looks.stands in
      let best : Best s node s.shape.count p.0 = record {
        below = busy_known ok s.queued p.0 busy;
        kid = kid;
        busy = busy;
        least = λ k l c u. omega (arith, start, looks.least k _ (known k u) (held node k c u));
        lowest = λ k l c u le. looks.first k _ (known k u) (held node k c u) (omega (arith, start, looks.least k _ (known k u) (held node k c u)));
      } in
      (p, refl, sym (best_next s node p.0 best))

  -- a leaf has no least
  least_none : (node : ℕ) (o : Option (ℕ × Parts)) → Looks h node 64 o → leaf s.shape node ≡ true → o ≡ None
  least_none node None looks end = refl
  least_none node (Some p) looks end =
      let (kid, busy, _) = stands_in node p.0 p.1 looks.stands in
      absurd (no_leaf ok node p.0 (busy_known ok s.queued p.0 busy) kid end)

  stays : (f node : ℕ) → child_or (least_of h node) node ≡ node → down h f node ≡ node
  stays zero node e = refl
  stays (suc f) node e = ap (down h f) e ∙ stays f node e

  -- as far down as the store leads
  descends : (f node : ℕ) → backlogged s node ≡ true → down h f node ≡ descend s f node
  descends zero node b = refl
  descends (suc f) node b = elim (cases_Bool (leaf s.shape node)) [
    | inl end ↦
        stays (suc f) node (ap (λ o. child_or o node) (least_none node _ (least_looks h node) end))
        ∙ sym (cond-true (leaf s.shape node) node (descend s f (next s node)) end)
    | inr inner ↦
        let (p, is, to) = least_best node _ (least_looks h node) b inner in
        ap (λ o. down h f (child_or o node)) is ∙ ap (down h f) to ∙ descends f (next s node) (goes_on s ok leaves node b inner).busy
        ∙ sym (cond-false (leaf s.shape node) node (descend s f (next s node)) inner)
  ]

  -- from the root's children down
  from_root : leaf s.shape 0 ≡ false → (o : Option (ℕ × Parts)) → Looks h 0 64 o → below_root h o ≡ cond (backlogged s 0) (Some (descend s 7 (next s 0))) None
  from_root inner o looks = elim (cases_Bool (backlogged s 0)) [
    | inl b ↦
        let (p, is, to) = least_best 0 o looks b inner in
        ap (below_root h) is ∙ ap Some (ap (down h 7) to ∙ descends 7 (next s 0) (goes_on s ok leaves 0 b inner).busy)
        ∙ sym (cond-true (backlogged s 0) (Some (descend s 7 (next s 0))) None b)
    | inr idle ↦ ap (below_root h) (nothing idle o looks) ∙ sym (cond-false (backlogged s 0) (Some (descend s 7 (next s 0))) None idle)
  ]
    where
      nothing : backlogged s 0 ≡ false → (o : Option (ℕ × Parts)) → Looks h 0 64 o → o ≡ None
      nothing idle None looks = refl
      nothing idle (Some p) looks =
          let (_, busy, _) = stands_in 0 p.0 p.1 looks.stands in
          absurd (both_ways _ idle (busy_above ok s.queued (root_above ok (busy_known ok s.queued p.0 busy)) busy))

  -- the leaf that the store leads to is the one that the rules pick, and there is none exactly where nothing is backlogged
  pub pick_is : (n : ℕ) → ltb 0 n ≡ backlogged s 0 → pick h (leaf s.shape 0) n ≡ cond (backlogged s 0) (Some (picked s)) None
  unfolding pick picked
  pick_is n e = elim (cases_Bool (leaf s.shape 0)) [
    | inl end ↦ cond-true (leaf s.shape 0) _ _ end ∙ ap (λ b. cond b (Some 0) None) e ∙ sym (ap (λ k. cond (backlogged s 0) (Some k) None) (cond-true (leaf s.shape 0) 0 (descend s 7 (next s 0)) end))
    | inr inner ↦ cond-false (leaf s.shape 0) _ _ inner ∙ from_root inner (least_of h 0) (least_looks h 0) ∙ sym (ap (λ k. cond (backlogged s 0) (Some k) None) (cond-false (leaf s.shape 0) 0 (descend s 7 (next s 0)) inner))
  ]
