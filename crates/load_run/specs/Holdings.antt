-- What the tables hold, as the definitions name it.
use Rattle.std.specs.Prelude.{◌≡◌, ℕ, ◌<◌, List, length, codes, slice_index_or}
use Rattle.semantics.specs.Texts.{Text}
use Rattle.semantics.specs.Histories.{History, IsPrefix}
use Rattle.write_history.specs.Passes.{PassView}
use Rattle.pequod_cache.specs.Meeting.{HasAllOf}
use Rattle.load_gen.specs.Lines as plain
use Rattle.load_run.specs.declared.held.Holding.{Holding}
use Rattle.load_run.specs.declared.held.Held.{Held}
use Rattle.load_run.specs.declared.text.Tables.{Tables}

abbrev pub plain_holding : Holding → plain.Holding
plain_holding holding = record { count = holding.count; bytes = holding.bytes }

-- the table whose keys begin with a text holds this after the history
pub record IsHeldAfter (h : History) (prefix : Text) (held : Held) : Type 0 where
  pub at : held.position ≡ length h
  pub is : plain_holding held.holding ≡ plain.table_holding prefix h

-- it holds this after a history that begins with one, and is a beginning of another
pub record IsHeldBetween (low high : History) (prefix : Text) (held : Held) : Type 0 where
  pub seen : History
  pub begins : IsPrefix low seen
  pub within : IsPrefix seen high
  pub holds : IsHeldAfter seen prefix held

-- so do all tables
pub record AreHeldBetween (low high : History) (tables : Tables) : Type 0 where
  pub s : IsHeldBetween low high (codes "s|") tables.s
  pub p : IsHeldBetween low high (codes "p|") tables.p
  pub v : IsHeldBetween low high (codes "v|") tables.v
  pub t : IsHeldBetween low high (codes "t|") tables.t
  pub karma : IsHeldBetween low high (codes "karma|") tables.karma

-- the history has all of the first client, and of each other one: it begins with what the client had seen, and has exactly what it
-- had written
pub record HoldsOwn (first : PassView) (others : List PassView) (h : History) : Type 0 where
  pub of_first : HasAllOf h first
  pub of_others : (i : ℕ) (d : PassView) → i < length others → HasAllOf h (slice_index_or others i d)

-- a table holds this after a history that has exactly what the clients had written
pub record IsHeldOf (first : PassView) (others : List PassView) (prefix : Text) (held : Held) : Type 0 where
  pub seen : History
  pub whole : HoldsOwn first others seen
  pub holds : IsHeldAfter seen prefix held

-- so do all tables
pub record AreHeldOf (first : PassView) (others : List PassView) (tables : Tables) : Type 0 where
  pub s : IsHeldOf first others (codes "s|") tables.s
  pub p : IsHeldOf first others (codes "p|") tables.p
  pub v : IsHeldOf first others (codes "v|") tables.v
  pub t : IsHeldOf first others (codes "t|") tables.t
  pub karma : IsHeldOf first others (codes "karma|") tables.karma
