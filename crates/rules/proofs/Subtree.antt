-- The part of a tree at and below a class, numbered anew in the same order, is like the whole there. Assumes nothing.
use Rattle.std.proofs.Common.{◌≡◌, ℕ, zero, suc, ◌+◌, ◌<◌, ◌≤◌, Bool, true, false, cond, not, ◌&&◌, ◌||◌, eqb, ltb, sym, refl, ap, ◌∙◌, subst, ap₂, inl, inr, ⊎_elim, arith}
use Rattle.std.proofs.lemmas.Bool.{cases_eq, cases_lt, cases_order, cases_Bool, eqb-true, eq-eqb, ne_eqb, lt-ltb, and_parts, and_from, and_left, and_right, both_ways, cond-true, cond-false}
use Rattle.rules.specs.Shape.{Shape, climb, Sound, any, under, child, leaf}
use Rattle.rules.specs.State.{sum, put, backlogged_by}
use Rattle.rules.specs.Alone.{rank, member, subtree, Inside}
use Rattle.rules.proofs.Tests.{no_test, same_test, cond_same}
use Rattle.rules.proofs.Tree.{Below, here, up, below_trans, under_below, below_under, below_le, child_decides}

module _ (t : Shape) (g : ℕ) where
  -- a class inside counts one
  pub rank_more : (n : ℕ) → under t g n ≡ true → rank t g (suc n) ≡ suc (rank t g n)
  rank_more n h = let e : rank t g (suc n) ≡ 1 + rank t g n = ap (λ b. cond b 1 0 + rank t g n) h in omega arith

  -- a class outside counts none
  pub rank_skip : (n : ℕ) → under t g n ≡ false → rank t g (suc n) ≡ rank t g n
  rank_skip n h = let e : rank t g (suc n) ≡ 0 + rank t g n = ap (λ b. cond b 1 0 + rank t g n) h in omega arith

  -- so each step counts one at most
  rank_step : (n : ℕ) → (rank t g n ≤ rank t g (suc n)) × (rank t g (suc n) ≤ suc (rank t g n))
  rank_step n = ⊎_elim (λ h. omega (arith, rank_more n h)) (λ h. omega (arith, rank_skip n h)) (cases_Bool (under t g n))

  -- the rank is no larger than the number
  pub rank_few : (n : ℕ) → rank t g n ≤ n
  rank_few zero = omega arith
  rank_few (suc n) = omega (arith, rank_few n, rank_step n)

  -- the rank grows with the number
  pub rank_grows : (m n : ℕ) → m ≤ n → rank t g m ≤ rank t g n
  rank_grows m zero le = let e : m ≡ 0 = omega arith in subst (λ x. rank t g x ≤ 0) (sym e) (omega arith)
  rank_grows m (suc n) le =
      ⊎_elim (λ (e : m ≡ suc n). subst (λ x. rank t g x ≤ rank t g (suc n)) (sym e) (omega arith)) (λ apart. omega (arith, rank_grows m n (omega arith), rank_step n)) (cases_eq m (suc n))

  -- of two classes, the first inside, the ranks stand as the numbers
  pub rank_strict : (k n : ℕ) → under t g k ≡ true → k < n → rank t g k < rank t g n
  rank_strict k n h lt = omega (arith, rank_more k h, rank_grows (suc k) n lt)

  -- classes inside with one rank are one
  pub rank_same : (k l : ℕ) → under t g k ≡ true → under t g l ≡ true → rank t g k ≡ rank t g l → k ≡ l
  rank_same k l hk hl e =
      ⊎_elim (λ same. same) (⊎_elim (λ lt. absurd (omega (arith, rank_strict k l hk lt))) (λ lt. absurd (omega (arith, rank_strict l k hl lt)))) (cases_order k l)

  -- the class of a rank, found again
  pub member_rank : (k n : ℕ) → under t g k ≡ true → k < n → member t g (rank t g k) n ≡ k
  member_rank k zero h lt = absurd (omega arith)
  member_rank k (suc n) h lt =
      ⊎_elim
      (λ e. subst (λ x. member t g (rank t g k) (suc x) ≡ k) e (cond-true _ _ _ (and_from _ _ h (eq-eqb _ _ refl))))
      (λ apart. let less : k < n = omega arith in
      cond-false _ _ _
      (and_right (under t g n) (eqb (rank t g n) (rank t g k)) (ne_eqb (rank t g n) (rank t g k) (λ e. omega (arith, rank_strict k n h less))))
      ∙ member_rank k n h less)
      (cases_eq k n)

  -- each number below the count is a class's rank
  pub ranked : (j n : ℕ) → j < rank t g n → (k : ℕ) × (k < n) × (under t g k ≡ true) × (rank t g k ≡ j)
  ranked j zero lt = absurd (omega arith)
  ranked j (suc n) lt =
      ⊎_elim
      (λ h. ⊎_elim (λ e. (n, omega arith, h, e)) (λ apart. let (k, less, hk, e) = ranked j n (omega (arith, rank_more n h)) in (k, omega arith, hk, e)) (cases_eq (rank t g n) j))
      (λ h. let (k, less, hk, e) = ranked j n (omega (arith, rank_skip n h)) in (k, omega arith, hk, e))
      (cases_Bool (under t g n))

  -- no number below the count has the rank j: the class looked for is g
  pub member_past : (j n : ℕ) → rank t g n ≤ j → member t g j n ≡ g
  member_past j zero le = refl
  member_past j (suc n) le =
      cond-false _ _ _
      (no_test (under t g n && eqb (rank t g n) j) (λ h. let (a, b) = and_parts (under t g n) (eqb (rank t g n) j) h in omega (arith, rank_more n a, eqb-true (rank t g n) j b)))
      ∙ member_past j n (omega (arith, rank_step n))

-- u is the part of t at and below g
pub record Part (t : Shape) (g : ℕ) (u : Shape) : Type 0 where
  pub whole : Sound t
  pub known : g < t.count
  pub alone : Sound u
  pub count : u.count ≡ rank t g t.count
  pub parent : (k : ℕ) → Inside t g k → (k ≡ g → ⊥) → u.parent (rank t g k) ≡ rank t g (t.parent k)

module _ {t : Shape} (ok : Sound t) {g : ℕ} (known : g < t.count) where
  -- g is at or below itself
  pub under_self : under t g g ≡ true
  under_self = below_under ok known (here refl)

  -- no class before g is at or below it
  pub not_before : (k : ℕ) → under t g k ≡ true → g ≤ k
  not_before k h = below_le ok (under_below ok h)

  -- g and what comes before it have rank 0
  pub rank_low : (n : ℕ) → n ≤ g → rank t g n ≡ 0
  rank_low zero le = refl
  rank_low (suc n) le = rank_skip t g n (no_test _ (λ h. omega (arith, not_before n h))) ∙ rank_low n (omega arith)

  -- the parent of a class below g is g or lies below it
  pub parent_under : (k : ℕ) → k < t.count → under t g k ≡ true → (k ≡ g → ⊥) → (t.parent k < t.count) × (under t g (t.parent k) ≡ true)
  parent_under k lt h apart =
      let below = ok.earlier k (omega (arith, not_before k h)) in
      (omega arith, by (under_below ok h))
    where
      by : Below t g k → under t g (t.parent k) ≡ true
      by (here e) = absurd (apart e)
      by (up pos x) = below_under ok (omega (arith, ok.earlier k pos)) x

  -- a class below g has a positive rank
  pub rank_pos : (k : ℕ) → under t g k ≡ true → (k ≡ g → ⊥) → 0 < rank t g k
  rank_pos k h apart = omega (arith, rank_strict t g g k under_self (omega (arith, not_before k h)))

  -- a parent in the subtree is the parent in the whole, renumbered
  subtree_up : (j : ℕ) → 0 < j → (subtree t g).parent j ≡ rank t g (t.parent (member t g j t.count))
  subtree_up j pos = cond-false (eqb j 0) 0 (rank t g (t.parent (member t g j t.count))) (ne_eqb j 0 (λ e. omega arith))

  -- the same of a class inside
  subtree_parent : (k : ℕ) → k < t.count → under t g k ≡ true → (k ≡ g → ⊥) → (subtree t g).parent (rank t g k) ≡ rank t g (t.parent k)
  subtree_parent k lt h apart = subtree_up (rank t g k) (rank_pos k h apart) ∙ ap (λ x. rank t g (t.parent x)) (member_rank t g k t.count h lt)

  -- a parent in the subtree comes first
  subtree_earlier : (j : ℕ) → 0 < j → (subtree t g).parent j < j
  subtree_earlier j pos = ⊎_elim inside past (cases_lt j (rank t g t.count))
    where
      inside : j < rank t g t.count → (subtree t g).parent j < j
      inside lt =
          let (k, less, h, e) = ranked t g j t.count lt in
          let apart : k ≡ g → ⊥ = (λ z. omega (arith, subst (λ x. rank t g x ≡ j) z e, rank_low g (omega arith))) in
          let top = parent_under k less h apart in
          subst (λ x. (subtree t g).parent x < x) e (omega (arith, subtree_parent k less h apart, rank_strict t g (t.parent k) k top.1 (ok.earlier k (omega (arith, not_before k h)))))

      above : t.parent g ≤ g
      above = ⊎_elim (λ z. subst (λ x. t.parent x ≤ x) (sym z) (omega (arith, ok.root))) (λ apart. omega (arith, ok.earlier g (omega arith))) (cases_eq g 0)

      past : rank t g t.count ≤ j → (subtree t g).parent j < j
      past le = omega (arith, subtree_up j pos, ap (λ x. rank t g (t.parent x)) (member_past t g j t.count le), rank_low (t.parent g) above)

  -- the subtree is no deeper than the whole
  subtree_climb : (n k : ℕ) → k < t.count → under t g k ≡ true → climb t n k ≡ 0 → climb (subtree t g) n (rank t g k) ≡ 0
  subtree_climb zero k lt h e = omega (arith, rank_few t g k)
  subtree_climb (suc n) k lt h e =
      ⊎_elim
      (λ z. subst (λ x. climb (subtree t g) (suc n) x ≡ 0) (sym (ap (rank t g) z ∙ rank_low g (omega arith))) (still n))
      (λ apart. let top = parent_under k lt h apart in
      subst (λ x. climb (subtree t g) n x ≡ 0) (sym (subtree_parent k lt h apart)) (subtree_climb n (t.parent k) top.0 top.1 e))
      (cases_eq k g)
    where
      still : (n : ℕ) → climb (subtree t g) n 0 ≡ 0
      still zero = refl
      still (suc n) = still n

  -- the subtree is the part at and below g
  pub subtree_part : Part t g (subtree t g)
  subtree_part = record {
    whole = ok;
    known = known;
    count = refl;
    parent = λ k i apart. subtree_parent k i.0 i.1 apart;
    alone = record {
      some = omega (arith, rank_strict t g g t.count under_self known);
      few = omega (arith, rank_few t g t.count, ok.few);
      root = refl;
      earlier = subtree_earlier;
      shallow = λ j lt. let (k, less, h, e) = ranked t g j t.count lt in subst (λ x. climb (subtree t g) 7 x ≡ 0) e (subtree_climb 7 k less h (ok.shallow k less));
    };
  }

-- a longer sum is no less, and no more where only nothing is added
sum_from : (f : ℕ → ℕ) (m n : ℕ) → m ≤ n → (sum f m ≤ sum f n) × (((j : ℕ) → m ≤ j → f j ≡ 0) → sum f n ≡ sum f m)
sum_from f m zero le = let e : m ≡ 0 = omega arith in rw e (omega arith, λ _. refl)
sum_from f m (suc n) le = elim (cases_eq m (suc n)) [
  | inl e ↦ rw e (omega arith, λ _. refl)
  | inr apart ↦ let (less, same) = sum_from f m n (omega arith) in (omega arith, λ none. omega (arith, none n (omega arith), same none))
]

module _ {t u : Shape} {g : ℕ} (part : Part t g u) where
  -- g is inside
  pub root_inside : Inside t g g
  root_inside = (part.known, under_self part.whole part.known)

  -- g has number 0 in the part
  pub rank_root : rank t g g ≡ 0
  rank_root = rank_low part.whole part.known g (omega arith)

  -- a class inside has a number of the part
  pub rank_known : (k : ℕ) → Inside t g k → rank t g k < u.count
  rank_known k i = omega (arith, part.count, rank_strict t g k t.count i.1 i.0)

  -- and each number of the part is one's
  pub each_part : (P : ℕ → Type 0) → ((k : ℕ) → Inside t g k → P (rank t g k)) → (j : ℕ) → j < u.count → P j
  each_part P all j lt = let (k, less, h, e) = ranked t g j t.count (omega (arith, part.count)) in subst P e (all k (less, h))

  -- the parent of a class below g is inside
  pub parent_inside : (k : ℕ) → Inside t g k → (k ≡ g → ⊥) → Inside t g (t.parent k)
  parent_inside k i apart = parent_under part.whole part.known k i.0 i.1 apart

  -- what is below a class inside is inside
  pub inside_below : (k l : ℕ) → Inside t g k → l < t.count → under t k l ≡ true → Inside t g l
  inside_below k l i lt h = (lt, below_under part.whole lt (below_trans (under_below part.whole i.1) (under_below part.whole h)))

  -- a child of a class inside is inside, and is not g
  pub child_inside : (k c : ℕ) → Inside t g k → c < t.count → child t k c ≡ true → (Inside t g c) × (c ≡ g → ⊥)
  child_inside k c i lt h =
      let (pos, is) = (child_decides t k c).0 h in
      (inside_below k c i lt (below_under part.whole lt (up pos (here is))), λ e. omega (arith, part.whole.earlier c pos, not_before part.whole part.known k i.1))

  -- one class lies below another in the part as in the whole
  under_in : (k l : ℕ) → Inside t g k → Inside t g l → Below t k l → Below u (rank t g k) (rank t g l)
  under_in k l i j (here e) = here (ap (rank t g) e)
  under_in k l i j (up pos x) =
      let apart : l ≡ g → ⊥ = (λ e. omega (arith, below_le part.whole x, not_before part.whole part.known k i.1, part.whole.earlier l pos)) in
      up (rank_pos part.whole part.known l j.1 apart)
      (subst (Below u (rank t g k)) (sym (part.parent l j apart)) (under_in k (t.parent l) i (parent_inside l j apart) x))

  -- and the other way round
  under_out : (k : ℕ) {m : ℕ} (l : ℕ) → Inside t g k → Inside t g l → m ≡ rank t g l → Below u (rank t g k) m → Below t k l
  under_out k l i j e (here z) = here (rank_same t g l k j.1 i.1 (sym e ∙ z))
  under_out k {m} l i j e (up pos x) =
      let apart : l ≡ g → ⊥ = (λ z. omega (arith, ap (rank t g) z, rank_root)) in
      up (omega (arith, not_before part.whole part.known l j.1))
      (under_out k (t.parent l) i (parent_inside l j apart) (ap u.parent e ∙ part.parent l j apart) x)

  -- so the test comes out the same
  pub under_part : (k l : ℕ) → Inside t g k → Inside t g l → under u (rank t g k) (rank t g l) ≡ under t k l
  under_part k l i j = same_test _ _
      (λ h. below_under part.whole j.0 (under_out k l i j refl (under_below part.alone h)))
      (λ h. below_under part.alone (rank_known l j) (under_in k l i j (under_below part.whole h)))

  -- a test that passes inside only comes out the same over the part as over the whole, as far as class n
  any_up_to : (p q : ℕ → Bool) (n : ℕ) → n ≤ t.count → ((k : ℕ) → Inside t g k → q (rank t g k) ≡ p k) → ((k : ℕ) → k < t.count → under t g k ≡ false → p k ≡ false) → any q (rank t g n) ≡ any p n
  any_up_to p q zero le same out = refl
  any_up_to p q (suc n) le same out =
      let rest = any_up_to p q n (omega arith) same out in
      ⊎_elim
      (λ h. ap (any q) (rank_more t g n h) ∙ ap₂ ◌||◌ (same n (omega arith, h)) rest)
      (λ h. ap (any q) (rank_skip t g n h) ∙ rest ∙ sym (ap (λ b. b || any p n) (out n (omega arith) h)))
      (cases_Bool (under t g n))

  -- over all classes
  pub any_part : (p q : ℕ → Bool) → ((k : ℕ) → Inside t g k → q (rank t g k) ≡ p k) → ((k : ℕ) → k < t.count → under t g k ≡ false → p k ≡ false) → any q u.count ≡ any p t.count
  any_part p q same out = ap (any q) part.count ∙ any_up_to p q t.count (omega arith) same out

  -- children are the same in the part
  pub child_part : (k c : ℕ) → Inside t g k → Inside t g c → child u (rank t g k) (rank t g c) ≡ child t k c
  child_part k c i j = same_test _ _
      (λ h.
      let (pos, is) = (child_decides u (rank t g k) (rank t g c)).0 h in
      let apart : c ≡ g → ⊥ = (λ z. omega (arith, ap (rank t g) z, rank_root)) in
      (child_decides t k c).1 (omega (arith, not_before part.whole part.known c j.1), rank_same t g (t.parent c) k (parent_inside c j apart).1 i.1 (sym (part.parent c j apart) ∙ is)))
      (λ h.
      let apart = (child_inside k c i j.0 h).1 in
      (child_decides u (rank t g k) (rank t g c)).1 (rank_pos part.whole part.known c j.1 apart, part.parent c j apart ∙ ap (rank t g) ((child_decides t k c).0 h).1))

  -- so leaves are the same
  pub leaf_part : (k : ℕ) → Inside t g k → leaf u (rank t g k) ≡ leaf t k
  leaf_part k i = ap not (any_part (child t k) (child u (rank t g k)) (λ c j. child_part k c i j) (λ c lt h. no_test _ (λ z. both_ways _ h (child_inside k c i lt z).0.1)))

  -- a class outside g lies below no class inside
  pub away : (k c : ℕ) → Inside t g k → c < t.count → under t g c ≡ false → under t k c ≡ false
  away k c i lt h = no_test _ (λ z. both_ways _ h (inside_below k c i lt z).1)

  -- and so are the backlogged classes
  pub busy_part : (q q' : ℕ → ℕ) → ((k : ℕ) → Inside t g k → q' (rank t g k) ≡ q k) → (k : ℕ) → Inside t g k → backlogged_by u q' (rank t g k) ≡ backlogged_by t q k
  busy_part q q' same k i = any_part (λ l. under t k l && ltb 0 (q l)) (λ l. under u (rank t g k) l && ltb 0 (q' l))
      (λ l j. ap₂ ◌&&◌ (under_part k l i j) (ap (ltb 0) (same l j))) (λ l lt h. and_left _ _ (away k l i lt h))

  -- tests of numbers come out the same in the part
  eqb_part : (k c : ℕ) → Inside t g k → Inside t g c → eqb (rank t g k) (rank t g c) ≡ eqb k c
  eqb_part k c i j = same_test _ _
      (λ h. eq-eqb _ _ (rank_same t g k c i.1 j.1 (eqb-true _ _ h)))
      (λ h. eq-eqb _ _ (ap (rank t g) (eqb-true _ _ h)))

  -- no class below g is a root
  pub pos_part : (k : ℕ) → Inside t g k → (k ≡ g → ⊥) → ltb 0 (rank t g k) ≡ ltb 0 k
  pos_part k i apart = lt-ltb _ _ (rank_pos part.whole part.known k i.1 apart) ∙ sym (lt-ltb _ _ (omega (arith, not_before part.whole part.known k i.1)))

  -- a change at a class inside
  pub put_part : {A : Type 0} (f f' : ℕ → A) → ((k : ℕ) → Inside t g k → f' (rank t g k) ≡ f k) → (c : ℕ) → Inside t g c → {x x' : A} → x' ≡ x → (k : ℕ) → Inside t g k → put f' (rank t g c) x' (rank t g k) ≡ put f c x k
  put_part f f' same c j e k i = cond_same (eqb_part k c i j) (λ _. e) (λ _. same k i)

  -- a change at a class outside
  pub put_other : {A : Type 0} (f : ℕ → A) (c : ℕ) (x : A) → under t g c ≡ false → (k : ℕ) → Inside t g k → put f c x k ≡ f k
  put_other f c x h k i = cond-false _ _ _ (ne_eqb _ _ (λ e. both_ways _ h (subst (λ z. under t g z ≡ true) e i.1)))

  -- the part holds no more than the whole, by what has been counted so far
  sum_up_to : (f f' : ℕ → ℕ) → ((k : ℕ) → Inside t g k → f' (rank t g k) ≡ f k) → (n : ℕ) → n ≤ t.count → sum f' (rank t g n) ≤ sum f n
  sum_up_to f f' same zero le = omega arith
  sum_up_to f f' same (suc n) le = let rest = sum_up_to f f' same n (omega arith) in elim (cases_Bool (under t g n)) [
    | inl h ↦ rw (rank_more t g n h) (omega (arith, same n (omega arith, h)))
    | inr h ↦ rw (rank_skip t g n h) (omega arith)
  ]

  -- over all lanes
  pub sum_part : (f f' : ℕ → ℕ) → ((k : ℕ) → Inside t g k → f' (rank t g k) ≡ f k) → ((j : ℕ) → u.count ≤ j → f' j ≡ 0) → (n : ℕ) → t.count ≤ n → sum f' n ≤ sum f n
  sum_part f f' same none n le =
      omega (arith, (sum_from f' u.count n (omega (arith, part.count, rank_few t g t.count))).1 none, ap (sum f') part.count, sum_up_to f f' same t.count (omega arith), (sum_from f t.count n le).0)
