-- The types of joins and writes as the data that the definitions speak of.
use Rattle.semantics.specs.Joins as plain
use Rattle.join_types.specs.declared.join.Op.{Op}
use Rattle.join_types.specs.declared.join.Op.TheVariants.{Check, Copy, Count, Sum, Min, Max}
use Rattle.join_types.specs.declared.join.Kind.{Kind}
use Rattle.join_types.specs.declared.join.Kind.TheVariants.{Push, Pull}

abbrev pub plain_op : Op → plain.Operator
plain_op Check = plain.check
plain_op Copy = plain.copy
plain_op Count = plain.count
plain_op Sum = plain.sum
plain_op Min = plain.min
plain_op Max = plain.max

abbrev pub plain_kind : Kind → plain.Kind
plain_kind Push = plain.push
plain_kind Pull = plain.pull
