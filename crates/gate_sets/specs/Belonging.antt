-- Lists of matrices, and of lists of nodes, that belong to a circuit.
use Rattle.std.specs.Prelude.{List, All}
use Rattle.gate_trait.specs.declared.node.Node.{Node}
use Rattle.gate_trait.specs.Built.{AllIn}
use Rattle.gate_matrix.specs.Matrices.{MatrixEntries, AllBelong}

-- the nodes of all matrices have the property
abbrev pub AllMatrices : (Node → Type 0) → List MatrixEntries → Type 0
AllMatrices belongs ms = All (λ m. AllBelong belongs m.entries) ms

-- the nodes of all lists have the property
abbrev pub AllLists : (Node → Type 0) → List (List Node) → Type 0
AllLists belongs lists = All (λ nodes. AllIn belongs nodes) lists
