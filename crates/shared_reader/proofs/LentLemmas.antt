-- How a lent pass goes on.
use Rattle.std.proofs.Common.{◌≡◌, ◌∙◌, ap, refl, subst}
use Rattle.write_history.specs.Passes.{PassView}
use Rattle.base_shards.specs.Reading.{ReadsOn}
use Rattle.base_shards.proofs.ReadingLemmas.{reads_on-refl, reads_on-trans}
use Rattle.shared_reader.specs.Lent.{LentPass, LentReadsOn}

pub lent_reads_on-refl : (a : LentPass) → LentReadsOn a a
lent_reads_on-refl a = record { same = refl; on = reads_on-refl a.pass }

pub lent_reads_on-trans : (a b c : LentPass) → LentReadsOn a b → LentReadsOn b c → LentReadsOn a c
lent_reads_on-trans a b c first next = record { same = next.same ∙ first.same; on = reads_on-trans a.pass b.pass c.pass first.on next.on }

-- what is lent by one name is one pass
pub same_pass : (a b : LentPass) → a ≡ b → a.pass ≡ b.pass
same_pass a b same = ap (λ (v : LentPass). v.pass) same

-- a lent pass that only reads is lent as before
pub lends_on : (old now : LentPass) (new : PassView) → old ≡ now → ReadsOn old.pass new → LentReadsOn now (record { pass = new; lent = old.lent })
lends_on old now new same on = subst (λ v. LentReadsOn v (record { pass = new; lent = old.lent })) same (record { same = refl; on = on })
