-- What a line without a JSON value is refused for.
use Rattle.std.proofs.Common.{◌≡◌, Option, None, Err, ap, ◌∙◌}
use Rattle.std.specs.Prelude.{Result}
use Rattle.serde_json.specs.Data.{Data}
use Rattle.protocol.specs.Requests as plain
use Rattle.request_codec.specs.declared.request.LineFault.{LineFault}
use Rattle.request_codec.specs.declared.request.LineFault.TheVariants.{Json, Form, Key, Value, Range, Syntax, OutOfMemory}
use Rattle.request_codec.specs.Plain.{IsFaultOf, IsNoJson}

-- where no value is refused as no JSON, such a line is
pub fault_of_json : {A : Type 0} (given : Option Data → Result A plain.LineFault) (found : Option Data) (fault : LineFault) → given None ≡ Err plain.json → IsNoJson found fault → IsFaultOf (given found) fault
fault_of_json given found Json refused none = ap given none ∙ refused
fault_of_json given found Form refused bad = absurd bad
fault_of_json given found Key refused bad = absurd bad
fault_of_json given found Value refused bad = absurd bad
fault_of_json given found Range refused bad = absurd bad
fault_of_json given found (Syntax at) refused bad = absurd bad
fault_of_json given found (OutOfMemory _) refused any = tt
