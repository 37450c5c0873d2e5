-- What is held once a range is filled.
use Rattle.std.specs.Prelude.{◌≡◌, ℕ, List, [], fold, length, true, if◌then◌else◌, Option, Some}
use Rattle.semantics.specs.Texts.{Text, same, Table, pairs_within, with_pair}
use Rattle.semantics.specs.Joins.{is_aggregate, value_operator}
use Rattle.semantics.specs.Outputs.{out}
use Rattle.range_evaluation.specs.Contributions.{Contribution}
use Rattle.join_rows.specs.Kept.{KeptRows}
use Rattle.agg_rows.specs.Kept.{KeptGroups, pairs_of}
use Rattle.join_eval.specs.Bounds.{Allows, Exceeds}
use Rattle.kept_ranges.specs.Rules.{Application, IsFilled}
use Rattle.kept_ranges.specs.Listing.{AreListed}
use Rattle.range_state.specs.Valued.{ValuedApplication}
use Rattle.range_state.specs.Held.{groups_of, kept_of, FitsJoin}
use Rattle.range_state.specs.Work.{fill_needs}
use Rattle.range_state.specs.declared.filling.Filling.{Filling}
use Rattle.range_state.specs.declared.filling.Filling.TheVariants.{Whole, Loose}
use Rattle.range_state.specs.declared.holding.Holding.{Holding}
use Rattle.range_state.specs.declared.subject.Subject.{Subject}

-- these rows and groups are held at a position, with nothing pending and no notes
pub record HoldsAt (subject : Subject) (at : ℕ) (found : KeptRows) (listed : Option KeptGroups) (held : Holding) : Type 0 where
  pub fits : FitsJoin subject.join held
  pub position : held.position ≡ at
  pub rows : held.rows ≡ found
  pub groups : held.groups ≡ listed
  pub pending : held.pending.noted ≡ []
  pub notes : held.notes ≡ record { start = at; list = [] }

-- what is held at a position is what filling the range over a table makes: the rows, the needs, and for an aggregate what is listed
pub record IsFilledAt (subject : Subject) (table : Table) (at : ℕ) (held : Holding) : Type 0 where
  pub fits : FitsJoin subject.join held
  pub position : held.position ≡ at
  pub pending : held.pending.noted ≡ []
  pub notes : held.notes ≡ record { start = at; list = [] }
  pub filled : IsFilled subject.join subject.range table (kept_of held)
  pub listed : is_aggregate (value_operator subject.join) ≡ true → AreListed subject.join subject.range table (λ k. pairs_of k (groups_of held.groups))

-- what filling the range over a table at a position finds: all that is held then, where so many needs are allowed as it takes, and otherwise the rows alone
abbrev pub Fills : {M : Type 0} → Subject → Option ℕ → Table → ℕ → Filling M → Type 0
Fills s most table at (Whole held) = IsFilledAt s table at held × Allows most (length (fill_needs s.join s.range table))
Fills s most table at (Loose found more) = (found.pairs ≡ pairs_within s.range (out s.join table)) × Exceeds most (length (fill_needs s.join s.range table))

-- the pairs of an output key once each contribution to it is listed in turn
abbrev pub listed_each : Text → List Contribution → Table
listed_each key given = fold (λ pairs c. if same c.output key then with_pair c.source c.value pairs else pairs) [] given

-- the application of a contribution's pair to its output key
abbrev pub application_of : Contribution → Application
application_of c = record { output = c.output; source = c.source }

-- and with its value
abbrev pub valued_of : Contribution → ValuedApplication
valued_of c = record { output = c.output; source = c.source; value = Some c.value }
