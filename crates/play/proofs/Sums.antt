-- The lines of the charges.
use Rattle.std.proofs.Common.{◌≡◌, ℕ, ◌+◌, [], ◌∷◌, ◌++◌, codes, decimal, sym, ap, ◌∙◌, subst, append_assoc, add-one}
use mathlib.Core.Path.{fun_ext}
use Rattle.base.specs.declared.units.Units.{Units}
use Rattle.classes.specs.declared.name.Name.{Name}
use Rattle.classes.specs.declared.table.ClassTable.{ClassTable}
use Rattle.classes.specs.Names.{text_of}
use Rattle.classes.specs.Tables.{class_count, name_of}
use Rattle.listing.specs.declared.line.Line.TheVariants.{Class}
use Rattle.listing.specs.declared.listing.Listing.{Listing}
use Rattle.listing.specs.Lines.{ended}
use Rattle.listing.specs.Listings.{Gains, Holds}
use Rattle.play.specs.Listings.{sums}

-- one class more
pub sums_more : (t : ClassTable) (charged : ℕ → ℕ) (k : ℕ) (l m n : Listing) (name : Name) (units : Units) → text_of name ≡ name_of t k → units.0 ≡ charged k → Gains l (sums t charged k) m → Gains m (ended (Class name units)) n → Gains l (sums t charged (k + 1)) n
sums_more t charged k l m n name units named is before more bs z =
    let same : ended (Class name units) ≡ (codes "s " ++ (name_of t k ++ (codes " " ++ decimal (charged k)))) ++ 10 ∷ [] =
    ap (λ x. (codes "s " ++ (x ++ (codes " " ++ decimal units.0))) ++ 10 ∷ []) named ∙ ap (λ x. (codes "s " ++ (name_of t k ++ (codes " " ++ decimal x))) ++ 10 ∷ []) is in
    subst (λ j. Holds n (bs ++ sums t charged j)) (sym (add-one k))
    (subst (λ x. Holds n (bs ++ (sums t charged k ++ x))) same (subst (Holds n) (append_assoc bs (sums t charged k) (ended (Class name units))) (more (bs ++ sums t charged k) (before bs z))))

-- the same classes with the same charges
pub sums_same : (t t' : ClassTable) (f g : ℕ → ℕ) → t ≡ t' → ((k : ℕ) → f k ≡ g k) → sums t f (class_count t) ≡ sums t' g (class_count t')
sums_same t t' f g e alike = ap (λ t. sums t f (class_count t)) e ∙ ap (λ f. sums t' f (class_count t')) (fun_ext {f = f} {g = g} alike)
