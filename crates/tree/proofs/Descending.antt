-- The way down ends where the store has nothing under a node.
use Rattle.std.proofs.Common.{◌≡◌, ℕ, zero, suc, ◌+◌, ◌<◌, Bool, true, false, cond, ltb, Some, None, sym, refl, ap, ◌∙◌, arith}
use Rattle.std.specs.Bool.{then_some}
use Rattle.base.specs.declared.units.Parts.{Parts}
use Rattle.tags.specs.Held.{Held, least_of}
use Rattle.tree.specs.Walks.{child_or, down, lowest, below_root, pick}

-- after i steps from a node the way has come to `node`, and what is left of it leads to its end
abbrev pub Left : Held → ℕ → ℕ → ℕ → Type 0
Left h from node i = (n : ℕ) × (n + i ≡ 7) × (down h n node ≡ lowest h from)

some_if : (b : Bool) (x : ℕ) → then_some b x ≡ cond b (Some x) None
some_if true x = refl
some_if false x = refl

down_none : (h : Held) (n node : ℕ) → least_of h node ≡ None → down h n node ≡ node
down_none h zero node e = refl
down_none h (suc n) node e = ap (λ o. down h n (child_or o node)) e ∙ down_none h n node e

module _ (h : Held) (from : ℕ) where
  pub left_all : Left h from from 0
  unfolding lowest
  left_all = (7, refl, refl)

  pub left_more : (node i child : ℕ) (tag : Parts) → i < 7 → Some (child, tag) ≡ least_of h node → Left h from node i → Left h from child (i + 1)
  left_more node i child tag l e (zero, fuel, to) = absurd (omega arith)
  left_more node i child tag l e (suc n, fuel, to) = (n, omega arith, ap (λ o. down h n (child_or o node)) e ∙ to)

  -- the node has no child in the store
  pub left_none : (node i : ℕ) → None ≡ least_of h node → Left h from node i → node ≡ lowest h from
  left_none node i e (n, fuel, to) = sym (down_none h n node (sym e)) ∙ to

  module _ (alone : Bool) (waiting : ℕ) where
    -- a root without children
    pub pick_alone : alone ≡ true → then_some (ltb 0 waiting) 0 ≡ pick h alone waiting
    unfolding pick
    pick_alone a = some_if (ltb 0 waiting) 0 ∙ sym (ap (λ b. cond b (cond (ltb 0 waiting) (Some 0) None) (below_root h (least_of h 0))) a)

    -- a root with children
    pub pick_none : alone ≡ false → None ≡ least_of h 0 → None ≡ pick h alone waiting
    unfolding pick
    pick_none a e = ap (below_root h) e ∙ sym (ap (λ b. cond b (cond (ltb 0 waiting) (Some 0) None) (below_root h (least_of h 0))) a)

    pub pick_some : (tag : Parts) (leaf : ℕ) → alone ≡ false → Some (from, tag) ≡ least_of h 0 → leaf ≡ lowest h from → Some leaf ≡ pick h alone waiting
    unfolding pick lowest
    pick_some tag leaf a e low = ap Some low ∙ ap (below_root h) e ∙ sym (ap (λ b. cond b (cond (ltb 0 waiting) (Some 0) None) (below_root h (least_of h 0))) a)
