-- What the links' own relations come to, draw by draw.
use Rattle.std.proofs.Common.{◌≡◌, ℕ, ◌+◌, ◌-◌, ◌<◌, ◌≤◌, min, false, cond, ◌||◌, eqb, List, [], ◌∷◌, length, sym, ap, ◌∙◌, subst, inl, inr, arith}
use Rattle.std.proofs.lemmas.Bool.{cases_Bool, ne_eqb}
use Rattle.links.specs.Fixed.{Fixes}
use Rattle.links.specs.Interrupts.{Interrupts}
use Rattle.links.specs.Listed.{listed}
use Rattle.links.specs.Outages.{covered}
use Rattle.links.specs.declared.fixed.FixedLink.{FixedLink}
use Rattle.links.specs.declared.interrupted.Interrupted.{Interrupted}
use Rattle.links.specs.declared.outage.Outage.{Outage}
use Rattle.stalling.specs.declared.draw.Draw.{Draw}
use Rattle.stalling.specs.Plays.{Plays}
use Rattle.stalling.specs.Timetables.{drawn, Timetable}

abbrev pub link_draws : Interrupted FixedLink → ℕ → ℕ → Interrupted FixedLink → Type 0
link_draws = Interrupts Fixes

record Stepped (s : Interrupted FixedLink) (k left d : ℕ) (u : Interrupted FixedLink) : Type 0 where
  did : d ≡ drawn s.below.rate (listed s.outages) k left
  count : u.count ≡ k + 1
  outages : u.outages ≡ s.outages
  rate : u.below.rate ≡ s.below.rate
  work : u.below.done.0 ≡ s.below.done.0 + d

stepped : (s : Interrupted FixedLink) (k left d : ℕ) (u : Interrupted FixedLink) → s.count ≡ k → k < 4294967295 → 0 < left → s.below.done.0 + left ≤ 1000000000000000 → link_draws s left d u → Stepped s k left d u
stepped s k left d u at low some room drew =
    let os : List Outage = listed s.outages in
    let idle : Type 0 = (d ≡ 0) × (u.below ≡ s.below) in
    let wanted : eqb left 0 ≡ false = ne_eqb left 0 (λ e. omega arith) in
    let counted : u.count ≡ k + 1 = drew.1 ∙ ap (λ b. cond b s.count (min (s.count + 1) 4294967295)) wanted ∙ omega arith in
    let did : cond (covered os k) idle (Fixes s.below left d u.below) =
    subst (λ n. cond (covered os n) idle (Fixes s.below left d u.below)) at
    (subst (λ b. cond (b || covered os s.count) idle (Fixes s.below left d u.below)) wanted drew.2) in
    elim (cases_Bool (covered os k)) [
      | inl out ↦
          let none : idle = subst (λ b. cond b idle (Fixes s.below left d u.below)) out did in
          record {
            did = none.0 ∙ sym (ap (λ b. cond b 0 (min left s.below.rate)) out);
            count = counted;
            outages = drew.0;
            rate = ap (λ l. l.rate) none.1;
            work = omega (arith, ap (λ (l : FixedLink). l.done.0) none.1, none.0);
          }
      | inr on ↦
          let done : Fixes s.below left d u.below = subst (λ b. cond b idle (Fixes s.below left d u.below)) on did in
          record {
            did = done.0 ∙ omega arith ∙ sym (ap (λ b. cond b 0 (min left s.below.rate)) on);
            count = counted;
            outages = drew.0;
            rate = done.1;
            work = done.2;
          }
    ]

pub timed : (xs : List Draw) (s t : Interrupted FixedLink) (k left : ℕ) → s.count ≡ k → k + length xs ≤ 4294967295 → s.below.done.0 + left ≤ 1000000000000000 → Plays link_draws s k left xs t → Timetable s.below.rate (listed s.outages) k left xs
timed [] s t k left at low room p = tt
timed (x ∷ xs) s t k left at low room p =
    let rate : ℕ = s.below.rate in
    let os : List Outage = listed s.outages in
    let u : Interrupted FixedLink = p.3.0 in
    let after = stepped s k left x.done u at (omega arith) p.0 room p.3.1 in
    let rest = timed xs u t (k + 1) (left - x.done) after.count (omega arith) (omega (arith, after.work)) p.3.2 in
    let same = subst (λ r. Timetable r (listed u.outages) (k + 1) (left - x.done) xs) after.rate rest in
    let Listed-same = subst (λ o. Timetable rate (listed o) (k + 1) (left - x.done) xs) after.outages same in (
      p.0,
      (λ i. record { number = p.1 i; wanted = p.2 i; done = after.did i }),
      subst (λ n. Timetable rate os (k + 1) (left - n) xs) after.did Listed-same,
    )
