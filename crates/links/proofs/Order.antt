-- Outages in order: the last one's end, and one more behind it.
use Rattle.std.proofs.Common.{◌≡◌, ℕ, ◌-◌, ◌<◌, ◌≤◌, true, ltb, leb, List, [], ◌∷◌, ◌++◌, length, get_or, Some, None, Option, MatchOption, sym, refl, ap, ◌∙◌, arith, Bor}
use Rattle.std.specs.List.{HoldsAt}
use native.Mathlib.Numerals.{unary_clauses}
use Rattle.std.proofs.lemmas.List.{nil_from_length}
use Rattle.std.proofs.lemmas.Bool.{and_parts, leb-true}
use Rattle.links.specs.declared.outage.Outage.{Outage}
use Rattle.links.specs.Outages.{ending, fits, in_order, last_end}

-- outages in order end within 32 bits
pub last_within : (from : ℕ) (os : List Outage) → from ≤ 4294967295 → in_order from os ≡ true → last_end from os ≤ 4294967295
last_within from [] h t = h
last_within from (o ∷ os) h t =
    let a = and_parts (leb from o.offset) _ t in
    let b = and_parts (ltb 0 o.length) _ a.1 in
    let c = and_parts (leb (ending o) 4294967295) _ b.1 in
    last_within (ending o) os (leb-true _ _ c.0) c.1

-- one more outage stands in order if it does so behind the last
pub order_more : (from : ℕ) (os : List Outage) (o : Outage) → in_order from os ≡ true → in_order (last_end from os) (o ∷ []) ≡ true → in_order from (os ++ o ∷ []) ≡ true
order_more from [] o t h = h
order_more from (x ∷ os) o t h =
    let a = and_parts (leb from x.offset) _ t in
    let b = and_parts (ltb 0 x.length) _ a.1 in
    let c = and_parts (leb (ending x) 4294967295) _ b.1 in
    rw (a.0, b.0, c.0) (order_more (ending x) os o c.1 h)

-- outages with one more that fits behind them stand in order
pub one_more : (os xs : List Outage) (o : Outage) → xs ≡ os ++ o ∷ [] → in_order 0 os ≡ true → fits os o ≡ true → in_order 0 xs ≡ true
one_more os xs o e t f = rw e (order_more 0 os o t (and_parts _ _ f).1)

-- the last outage's end, read at its place
pub last_read : (from : ℕ) (os : List Outage) (d : Outage) → 0 < length os → last_end from os ≡ ending (get_or os (length os - 1) d)
last_read from [] d h = absurd (omega arith)
last_read from (o ∷ []) d h = refl
last_read from (o ∷ (p ∷ os)) d h = simp unary_clauses (simp unary_clauses at (last_read (ending o) (p ∷ os) d (omega arith)))

-- the last outage that is read, if there is one, ends where the outages do
pub last_at : (os xs : List Outage) (o : Option (Bor Outage)) → xs ≡ os → MatchOption o (length xs ≤ 0) (λ x. (0 < length xs) × HoldsAt (λ y. x.now ≡ y) xs (length xs - 1)) → MatchOption o (last_end 0 os ≡ 0) (λ x. last_end 0 os ≡ ending x.now)
last_at os xs None e h = ap (last_end 0) (sym e ∙ nil_from_length xs (omega (arith, h)))
last_at os xs (Some x) e h = ap (last_end 0) (sym e) ∙ last_read 0 xs x.now h.0 ∙ ap ending (sym (h.1 x.now))
