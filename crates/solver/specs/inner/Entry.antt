-- The entries of the list that the code makes, and the classes of the definitions.
use Rattle.theory.specs.SignedClass.{SignedClass, signed_class}
use Rattle.solver.specs.declared.entry.Entry.{Entry}

abbrev pub entry : SignedClass → Entry
entry c = record { residue = c.residue; level = c.level }

-- the class of an entry
abbrev pub class_of : Entry → SignedClass
class_of x = signed_class x.residue x.level
