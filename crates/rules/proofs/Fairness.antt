-- While a class has work, a sibling gets no more than its share by weight, to within one item of each. Assumes nothing.
use Rattle.std.proofs.Common.{◌≡◌, ℕ, ◌+◌, ◌*◌, ◌/◌, ◌<◌, ◌≤◌, true, not, ◌&&◌, List, [], ◌∷◌, ◌++◌, length, sym, refl, ap, ◌∙◌, subst, subst₂, mul-le-mul_right, le_of_mul-le-mul_right, arith}
use Rattle.std.proofs.lemmas.List.{length-map}
use Rattle.std.proofs.lemmas.Bool.{and_parts, both_ways}
use Rattle.base.specs.Charge.{charged}
use Rattle.rules.specs.Shape.{under}
use Rattle.rules.specs.Kind.{Kind, KindLaws}
use Rattle.rules.specs.State.{Opening, Valid, State, backlogged}
use Rattle.rules.specs.Rules.{Step}
use Rattle.rules.specs.History.{Entry, Run, made, charge, between, largest, waiting, none, has_work, Throughout}
use Rattle.rules.specs.Laws.{Siblings, Fair}
use Rattle.rules.proofs.Tests.{any_decides}
use Rattle.rules.proofs.Tree.{under_below}
use Rattle.rules.proofs.Backlog.{busy_from, busy_parent}
use Rattle.rules.proofs.Consistent.{consistent, sound}
use Rattle.rules.proofs.Conservation.{balanced}
use Rattle.rules.proofs.StartTags.{wake_or_start, start_busy, start_near, shifts}
use Rattle.rules.proofs.Shares.{share, parts_is}

-- the sums: cf and cm are charged at rates rf and rm, from tags near v₀ to tags near v
fair_sums : (cm cf lm lf rm rf wm wf v₀ v s₀ s g₀ g : ℕ) → rm * wm ≡ 720720 → rf * wf ≡ 720720 → s ≡ s₀ + cf * rf → v ≤ s → s₀ ≤ v₀ + lf * rf → g₀ + cm * rm ≤ g → v₀ ≤ g₀ → g ≤ v + lm * rm → cm * wf ≤ cf * wm + (lf * wm + lm * wf)
fair_sums cm cf lm lf rm rf wm wf v₀ v s₀ s g₀ g em ef e₁ e₂ e₃ e₄ e₅ e₆ =
    let a : cm * rm ≤ (cf + lf) * rf + lm * rm = omega arith in
    let b : cm * rm * (wf * wm) ≤ ((cf + lf) * rf + lm * rm) * (wf * wm) = mul-le-mul_right (wf * wm) a in
    let l : cm * rm * (wf * wm) ≡ cm * wf * 720720 = rw (← em) (omega arith) in
    let r : ((cf + lf) * rf + lm * rm) * (wf * wm) ≡ (cf + lf) * wm * (rf * wf) + lm * wf * (rm * wm) = omega arith in
    let r₂ : ((cf + lf) * rf + lm * rm) * (wf * wm) ≡ (cf + lf) * wm * 720720 + lm * wf * 720720 = r ∙ rw (em, ef) refl in
    le_of_mul-le-mul_right {k = 720720} (omega (arith, b, l, r₂)) (omega arith)

-- a sum at rate r
spread : (a d r : ℕ) → (a + d) * r ≡ a * r + d * r
spread a d r = omega arith

-- a list that is not none has a length
some_length : {A : Type 0} (ws : List A) → not (none ws) ≡ true → 0 < length ws
some_length [] e = absurd (both_ways _ refl e)
some_length (w ∷ ws) e = omega arith

module _ {I : Type 0} (K : Kind I) (laws : KindLaws K) (o : Opening) (ok : Valid o) where
  -- a class with work at each moment of a stretch has work at its end
  at_end : (k : ℕ) (after before : List (Entry I)) → Throughout K o.shape k after before → has_work K o.shape k (after ++ before) ≡ true
  at_end k [] before w = w
  at_end k (e ∷ after) before w = w.0

  -- a class that has work is backlogged
  work_busy : {h : List (Entry I)} {s : State I} → Run K o h s → (k : ℕ) → has_work K o.shape k h ≡ true → backlogged s k ≡ true
  work_busy {h} {s} r k w =
      let n = consistent K o r in
      let (l, lt, e) = (any_decides (λ l. under o.shape k l && not (none (waiting K l h))) o.shape.count).0 w in
      let (on, some) = and_parts _ _ e in
      busy_from (sound K o ok n) s.queued k (record {
        lane = l;
        known = subst (λ t. l < t.count) (sym n.frame.1) lt;
        below = under_below (sound K o ok n) (subst (λ t. under t k l ≡ true) (sym n.frame.1) on);
        some = omega (arith, some_length (waiting K l h) some, ap length ((balanced K laws o ok r).lanes l), length-map (waiting K l h) (λ v. v.item), n.full l);
      })

  -- the parent of a class that has work is backlogged
  parent_busy : {h : List (Entry I)} {s : State I} → Run K o h s → (k : ℕ) → has_work K o.shape k h ≡ true → backlogged s (o.shape.parent k) ≡ true
  parent_busy {h} {s} r k w = let n = consistent K o r in subst (λ t. backlogged s (t.parent k) ≡ true) n.frame.1 (busy_parent (sound K o ok n) s.queued k (work_busy r k w))

  module _ (k : ℕ) (z : 0 < k) (lt : k < o.shape.count) where
    -- a class of the tree as it was opened is one of the tree now
    known : {h : List (Entry I)} {s : State I} → Run K o h s → k < s.shape.count
    known r = subst (λ t. k < t.count) (sym (consistent K o r).frame.1) lt

    -- what `start_near` says, for the tree as it was opened
    near : {h : List (Entry I)} {s : State I} (r : Run K o h s) → (s.tags.virtual (o.shape.parent k) ≤ wake_or_start s k) × (wake_or_start s k ≤ s.tags.virtual (o.shape.parent k) + largest o.shape k h * (720720 / o.weight k))
    near {h} {s} r =
        let (_, shape, weight, _) = (consistent K o r).frame in
        let g = subst₂ (λ t w. (s.tags.virtual (t.parent k) ≤ wake_or_start s k) × (wake_or_start s k ≤ s.tags.virtual (t.parent k) + charged (largest t k h) (w k))) shape weight (start_near K o ok r k z (known r)) in
        let w = ok.weights k lt in
        (g.0, omega (arith, g.1, parts_is (o.weight k) w.0 w.1 (largest o.shape k h)))

    -- what `shifts` says, for the tree as it was opened
    moved : {h : List (Entry I)} {s : State I} (s' : State I) (e : Entry I) (r : Run K o h s) → Step K s e.call e.answer s' → backlogged s' (o.shape.parent k) ≡ true →
        (backlogged s k ≡ true → backlogged s' k ≡ true → s'.tags.start k ≡ s.tags.start k + charge o.shape k e h * (720720 / o.weight k)) × (wake_or_start s k + charge o.shape k e h * (720720 / o.weight k) ≤ wake_or_start s' k)
    moved {h} {s} s' e r st busy =
        let (_, shape, weight, _) = (consistent K o r).frame in
        let m = shifts K o ok r k z (known r) e s' st (subst (λ t. backlogged s' (t.parent k) ≡ true) (sym shape) busy) in
        subst₂ (λ t w. (backlogged s k ≡ true → backlogged s' k ≡ true → s'.tags.start k ≡ s.tags.start k + charge t k e h * (720720 / w k)) × (wake_or_start s k + charge t k e h * (720720 / w k) ≤ wake_or_start s' k)) shape weight (m.exact, m.onward)

  module _ (f m : ℕ) (sib : Siblings o.shape f m) (before : List (Entry I)) where
    -- from the moment after before to the state s after the calls of after: f has moved on by its charges' share, m by no less than its own
    record Span (after : List (Entry I)) (s : State I) : Type 0 where
      origin : State I
      run : Run K o before origin
      work : has_work K o.shape f before ≡ true
      exact : s.tags.start f ≡ origin.tags.start f + between o.shape f after before * (720720 / o.weight f)
      onward : wake_or_start origin m + between o.shape m after before * (720720 / o.weight m) ≤ wake_or_start s m
      large : largest o.shape f before ≤ largest o.shape f (after ++ before)

    -- every stretch of work is such a span
    span : (after : List (Entry I)) (s : State I) → Run K o (after ++ before) s → Throughout K o.shape f after before → Span after s
    span [] s r w = record { origin = s; run = r; work = w; exact = omega arith; onward = omega arith; large = omega arith }
    span (e ∷ after) s (made {s = p} r st) w =
        let i = span after p r w.1 in
        let h = after ++ before in
        let busy = parent_busy (made r st) f w.0 in
        let x = (moved f sib.first sib.f_known s e r st busy).0 (work_busy r f (at_end f after before w.1)) (work_busy (made r st) f w.0) in
        let y = (moved m sib.second sib.m_known s e r st (subst (λ j. backlogged s j ≡ true) sib.together busy)).1 in
        record {
          origin = i.origin;
          run = i.run;
          work = i.work;
          exact = omega (arith, i.exact, x, spread (charge o.shape f e h) (between o.shape f after before) (720720 / o.weight f));
          onward = omega (arith, i.onward, y, spread (charge o.shape m e h) (between o.shape m after before) (720720 / o.weight m));
          large = omega (arith, i.large);
        }

  -- every moment of a history has its state
  at_moment : (later before : List (Entry I)) (s : State I) → Run K o (later ++ before) s → (p : State I) × Run K o before p
  at_moment [] before s r = (s, r)
  at_moment (e ∷ later) before s (made {s = p} r st) = at_moment later before p r

  -- every history is fair
  pub fair : {h : List (Entry I)} {s : State I} → Run K o h s → Fair K o h
  fair {s = now} run f m sib later after before e w =
      let (s, r) = at_moment later (after ++ before) now (subst (λ x. Run K o x now) e run) in
      let t = after ++ before in
      let i = span f m sib before after s r w in
      let a = near f sib.first sib.f_known i.run in
      let b = near f sib.first sib.f_known r in
      let c = near m sib.second sib.m_known i.run in
      let d = near m sib.second sib.m_known r in
      let p = sib.together in
      let wf = ok.weights f sib.f_known in
      let wm = ok.weights m sib.m_known in
      let rf = 720720 / o.weight f in
      let rm = 720720 / o.weight m in
      fair_sums (between o.shape m after before) (between o.shape f after before) (largest o.shape m t) (largest o.shape f t) rm rf (o.weight m) (o.weight f)
      (i.origin.tags.virtual (o.shape.parent m)) (s.tags.virtual (o.shape.parent m)) (i.origin.tags.start f) (s.tags.start f) (wake_or_start i.origin m) (wake_or_start s m)
      (share (o.weight m) wm.0 wm.1) (share (o.weight f) wf.0 wf.1)
      i.exact
      (omega (arith, b.0, start_busy s f (work_busy r f (at_end f after before w)), ap s.tags.virtual p))
      (omega (arith, a.1, start_busy i.origin f (work_busy i.run f i.work), ap i.origin.tags.virtual p, mul-le-mul_right rf i.large))
      i.onward
      c.0
      d.1
