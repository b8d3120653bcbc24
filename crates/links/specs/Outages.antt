-- What outages cover, and which lists of them a link takes.
use Rattle.std.specs.Prelude.{ℕ, ◌+◌, Bool, true, ◌&&◌, List, [], ◌∷◌, length, nat_le, nat_lt}
use Rattle.std.specs.List.{list_any}
use Rattle.links.specs.declared.outage.Outage.{Outage}

-- that many draws from that count on
abbrev pub outage : ℕ → ℕ → Outage
outage offset length = record { offset = offset; length = length }

-- the first count after the outage
abbrev pub ending : Outage → ℕ
ending o = o.offset + o.length

-- the draw of that count falls into the outage
abbrev pub covers : Outage → ℕ → Bool
covers o k = nat_le o.offset k && nat_lt k (ending o)

-- .. or into one of the outages
abbrev pub covered : List Outage → ℕ → Bool
covered os k = list_any (λ o. covers o k) os

-- the outages stand in order from a count on: none is empty, none begins before the one before it ends, and all end within 32 bits
abbrev pub in_order : ℕ → List Outage → Bool
in_order from [] = true
in_order from (o ∷ os) = nat_le from o.offset && (nat_lt 0 o.length && (nat_le (ending o) 4294967295 && in_order (ending o) os))

-- where the last of the outages ends, or that count where there is none
abbrev pub last_end : ℕ → List Outage → ℕ
last_end from [] = from
last_end from (o ∷ os) = last_end (ending o) os

-- the outage may stand behind those
abbrev pub fits : List Outage → Outage → Bool
fits os o = nat_lt (length os) 16 && in_order (last_end 0 os) (o ∷ [])
