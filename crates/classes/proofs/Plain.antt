-- Bytes that are a name.
use Rattle.std.proofs.Common.{◌≡◌, ℕ, zero, suc, ◌<◌, true, leb, List, [], ◌∷◌, length, IsUtf8, IsAscii, arith}
use Rattle.std.specs.List.{list_all}
use Rattle.std.proofs.lemmas.Bool.{and_parts}
use Rattle.std.proofs.lemmas.Str.{IsUtf8-from_ascii}
use Rattle.std.proofs.lemmas.Bool.Decides.{nat_tests}
use Rattle.base.specs.Words.{plain}
use Rattle.classes.specs.Words.{is_name}

low : (b : ℕ) → plain b ≡ true → b < 128
low b e = grind (arith, nat_tests)

ascii : (w : List ℕ) → list_all plain w ≡ true → IsAscii w
ascii [] e i = omega arith
ascii (b ∷ w) e zero = low b (and_parts (plain b) (list_all plain w) e).0
ascii (b ∷ w) e (suc i) = ascii w (and_parts (plain b) (list_all plain w) e).1 i

-- a name is text
pub name_utf8 : (w : List ℕ) → is_name w ≡ true → IsUtf8 w
name_utf8 w e = IsUtf8-from_ascii w (ascii w (and_parts (leb (length w) 8) (list_all plain w) (and_parts (leb 1 (length w)) _ e).1).1)
