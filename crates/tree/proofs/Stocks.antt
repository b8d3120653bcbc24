-- The store is in step with the loads again after each write. Assumes nothing.
use Rattle.std.proofs.Common.{◌≡◌, ℕ, ◌<◌, Bool, false, cond, ◌&&◌, ltb, List, length, set, Some, None, Option, sym, refl, ap, ◌∙◌, subst, inl, inr, arith}
use Rattle.std.proofs.lemmas.Bool.{cases_eq, eq-eqb, ne_eqb, lt-ltb, le-ltb, and_right}
use Rattle.base.specs.declared.units.Parts.{Parts}
use Rattle.rules.specs.Shape.{Shape}
use Rattle.tags.specs.Held.{Held, nothing, with, may_put}
use Rattle.tags.proofs.Uses.{put_done, with_same, with_other}
use Rattle.tree.specs.Loads.{no_load, load, stocked, Stocked}
use Rattle.tree.specs.declared.load.Load.{Load}
use Rattle.tree.proofs.Writes.{written}

-- what stands in the store for class c with the load l
abbrev pub pair : Shape → ℕ → Load → Option (ℕ × Parts)
pair t c l = cond (ltb 0 c && ltb 0 l.backlog) (Some (t.parent c, l.start)) None

module _ (t : Shape) (ls : List Load) where
  -- nothing waits and nothing stands
  pub stocked_none : ((k : ℕ) → load ls k ≡ no_load) → (h : Held) → h ≡ nothing → Stocked t h ls
  stocked_none blank h none k = ap (λ f. f k) none ∙ sym (ap (pair t k) (blank k) ∙ ap (λ b. cond b (Some (t.parent k, no_load.start)) None) (and_right (ltb 0 k) false refl))

  -- a class that is not backlogged does not stand in the store
  pub stands_not : (c : ℕ) (h : Held) → Stocked t h ls → (load ls c).backlog ≡ 0 → h c ≡ None
  stands_not c h was none = was c ∙ ap (λ b. cond b (Some (t.parent c, (load ls c).start)) None) (and_right (ltb 0 c) (ltb 0 (load ls c).backlog) (le-ltb 0 (load ls c).backlog (omega arith)))

  -- class c has a new load
  module _ (c : ℕ) (x : Load) (known : c < length ls) where
    -- the store has it right, as it has the other classes
    pub stocked_set : (h h' : Held) → Stocked t h ls → ((k : ℕ) → (k ≡ c → ⊥) → h' k ≡ h k) → h' c ≡ pair t c x → Stocked t h' (set ls c x)
    stocked_set h h' was rest here k = elim (cases_eq c k) [
      | inl e ↦ subst (λ k. h' k ≡ stocked t (set ls c x) k) e (here ∙ sym (ap (pair t c) (written ls c x known c ∙ ap (λ y. cond y x (load ls c)) (eq-eqb c c refl))))
      | inr n ↦ rest k (λ e. n (sym e)) ∙ was k ∙ sym (ap (pair t k) (written ls c x known k ∙ ap (λ y. cond y x (load ls k)) (ne_eqb c k n)))
    ]

    -- it stands as it stood
    pub stocked_same : (h : Held) → Stocked t h ls → pair t c (load ls c) ≡ pair t c x → Stocked t h (set ls c x)
    stocked_same h was same = stocked_set h h was (λ k n. refl) (was c ∙ same)

    -- it is no longer backlogged and is taken out
    pub stocked_taken : (h h' : Held) → Stocked t h ls → h' ≡ with h c None → x.backlog ≡ 0 → Stocked t h' (set ls c x)
    stocked_taken h h' was after none = stocked_set h h' was
        (λ k n. ap (λ f. f k) after ∙ with_other h c None k n)
        (ap (λ f. f c) after ∙ with_same h c None ∙ sym (ap (λ b. cond b (Some (t.parent c, x.start)) None) (and_right (ltb 0 c) (ltb 0 x.backlog) (le-ltb 0 x.backlog (omega arith)))))

    -- it is backlogged and put back into the store h'
    pub stocked_put : (h h' h'' : Held) → Stocked t h ls → ((k : ℕ) → (k ≡ c → ⊥) → h' k ≡ h k) → h' c ≡ None → (node : ℕ) → (0 < c) × (t.parent c ≡ node) → c < 64 → node < 64 → 0 < x.backlog →
        (r : Bool) → r ≡ may_put h' node c → h'' ≡ cond r (with h' c (Some (node, x.start))) h' → Stocked t h'' (set ls c x)
    stocked_put h h' h'' was rest out node up few low some r answer after =
        let put : h'' ≡ with h' c (Some (node, x.start)) = put_done h' h'' node c x.start r answer after low few out in
        let stands : pair t c x ≡ Some (node, x.start) = rw (lt-ltb 0 c up.0, lt-ltb 0 x.backlog some, up.1) refl in
        stocked_set h h'' was
        (λ k n. ap (λ f. f k) put ∙ with_other h' c (Some (node, x.start)) k n ∙ rest k n)
        (ap (λ f. f c) put ∙ with_same h' c (Some (node, x.start)) ∙ sym stands)
