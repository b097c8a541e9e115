-- What the rules out and in make of each construct.
use Rattle.c_tree.specs.declared.tree.Item.TheOpen as Open
use Rattle.c_tree.specs.declared.tree.Branch.TheVariants as B

-- a Leap goes out

-- a Leap goes in
