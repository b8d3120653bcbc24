-- A newly opened tree: nothing waits, and every tag is 0. Assumes nothing.
use Rattle.std.proofs.Common.{◌≡◌, ℕ, zero, suc, Bool, true, false, cond, List, sym, refl, ap, ◌∙◌, arith}
use Rattle.rules.specs.Laws.{Within}
use Rattle.rules.specs.Shape.{Shape, under, leaf}
use Rattle.rules.specs.State.{sum}
use Rattle.tree.specs.Counts.{queued, Counted}
use Rattle.tree.specs.Loads.{no_load, load}
use Rattle.tree.specs.States.{tags}
use Rattle.tree.specs.declared.load.Load.{Load}

sum_none : (f : ℕ → ℕ) (n : ℕ) → ((k : ℕ) → f k ≡ 0) → sum f n ≡ 0
sum_none f zero e = refl
sum_none f (suc n) e = omega (arith, e n, sum_none f n e)

cond_none : (b : Bool) (x : ℕ) → x ≡ 0 → ◌≡◌ {A = ℕ} (cond b x 0) 0
cond_none true x e = e
cond_none false x e = refl

module _ (t : Shape) (ls : List Load) (blank : (k : ℕ) → load ls k ≡ no_load) where
  pub none_queued : (k : ℕ) → queued t ls k ≡ 0
  none_queued k = cond_none (leaf t k) (load ls k).backlog (ap (λ l. l.backlog) (blank k))

  pub none_counted : Counted t ls
  none_counted k = ap (λ l. l.backlog) (blank k) ∙ sym (sum_none (λ l. cond (under t k l) (queued t ls l) 0) t.count (λ l. cond_none (under t k l) (queued t ls l) (none_queued l)))

  pub none_within : (m : ℕ) → Within (tags ls) m
  none_within m k = let e = blank k in (omega (arith, ap (λ l. l.start.0) e), omega (arith, ap (λ l. l.finish.0) e), omega (arith, ap (λ l. l.vtime.0) e))
