-- Refusals with their place, and how a fault is written.
use Rattle.std.specs.Prelude.{ℕ, List, ◌++◌, Ok, Err, codes, decimal, Result}
use Rattle.base.specs.declared.refusal.Refusal.{Refusal}
use Rattle.base.specs.declared.refusal.Refusal.TheVariants.{UnknownClass, NotALeaf, BadCost, LaneMismatch, ShelfFull, TurnOpen, NothingBacklogged, LimitReached, WrongGrant, NoStoppingPoint, TreeFull, UnknownParent, BadWeight, BadName, NameTaken, TooDeep, BadOutage, BadRate, TraceTooLong, BadFirstLine, BadLine, OutOfPlace}
use Rattle.base.specs.Numbers.{number}
use Rattle.trace.specs.declared.fault.Fault.{Fault}
use Rattle.trace.specs.declared.fault.Layer.{Layer}
use Rattle.trace.specs.declared.fault.Layer.TheVariants.{Text, Tree, Link}
use Rattle.trace.specs.declared.fault.Misread.{Misread}

-- the layer that a refusal comes from: the text from 19 on, the link 17 and 18, and the tree all others
abbrev pub layer_of : Refusal → Layer
layer_of UnknownClass = Tree
layer_of NotALeaf = Tree
layer_of BadCost = Tree
layer_of LaneMismatch = Tree
layer_of ShelfFull = Tree
layer_of TurnOpen = Tree
layer_of NothingBacklogged = Tree
layer_of LimitReached = Tree
layer_of WrongGrant = Tree
layer_of NoStoppingPoint = Tree
layer_of TreeFull = Tree
layer_of UnknownParent = Tree
layer_of BadWeight = Tree
layer_of BadName = Tree
layer_of NameTaken = Tree
layer_of TooDeep = Tree
layer_of BadOutage = Link
layer_of BadRate = Link
layer_of TraceTooLong = Text
layer_of BadFirstLine = Text
layer_of BadLine = Text
layer_of OutOfPlace = Text

-- the word of the line that it speaks of: a class's name or the rate is the second, the parent the third, the weight the
-- fourth; 0 is the whole line
abbrev pub word_of : Refusal → ℕ
word_of UnknownClass = 0
word_of NotALeaf = 0
word_of BadCost = 0
word_of LaneMismatch = 0
word_of ShelfFull = 0
word_of TurnOpen = 0
word_of NothingBacklogged = 0
word_of LimitReached = 0
word_of WrongGrant = 0
word_of NoStoppingPoint = 0
word_of TreeFull = 0
word_of UnknownParent = 3
word_of BadWeight = 4
word_of BadName = 2
word_of NameTaken = 2
word_of TooDeep = 3
word_of BadOutage = 0
word_of BadRate = 2
word_of TraceTooLong = 0
word_of BadFirstLine = 0
word_of BadLine = 0
word_of OutOfPlace = 0

-- a refusal with its layer and word
abbrev pub misread : Refusal → Misread
misread e = record { layer = layer_of e; word = word_of e; refusal = e }

-- the same on a line
abbrev pub on : ℕ → Misread → Fault
on n m = record { line = n; misread = m }

-- the fault of a refusal on a line
abbrev pub fault : ℕ → Refusal → Fault
fault n e = on n (misread e)

-- a result with its line
abbrev pub placed : {X : Type 0} → ℕ → Result X Misread → Result X Fault
placed n (Ok x) = Ok x
placed n (Err m) = Err (on n m)

abbrev pub named : Layer → List ℕ
named Text = codes "text"
named Tree = codes "tree"
named Link = codes "link"

-- `! LAYER LINE WORD NUMBER`
abbrev pub told : Fault → List ℕ
told f =
    codes "! " ++ (named f.misread.layer ++ (codes " " ++ (decimal f.line ++ (codes " " ++ (decimal f.misread.word ++ (codes " " ++ decimal (number f.misread.refusal)))))))
