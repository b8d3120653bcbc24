-- Which bytes are plain, and which are a word.
use Rattle.std.specs.Prelude.{ℕ, Bool, ◌&&◌, ◌||◌, List, length, nat_le}
use Rattle.std.specs.List.{list_all}

-- a to z or 0 to 9
abbrev pub plain : ℕ → Bool
plain b = (nat_le 97 b && nat_le b 122) || (nat_le 48 b && nat_le b 57)

-- 1 to most bytes of a to z and 0 to 9
abbrev pub is_word : ℕ → List ℕ → Bool
is_word most w = nat_le 1 (length w) && (nat_le (length w) most && list_all plain w)
