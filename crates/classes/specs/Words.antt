-- Which bytes are a name.
use Rattle.std.specs.Prelude.{ℕ, Bool, List}
use Rattle.base.specs.Words.{is_word}

-- 1 to 8 bytes of a to z and 0 to 9
abbrev pub is_name : List ℕ → Bool
is_name w = is_word 8 w
