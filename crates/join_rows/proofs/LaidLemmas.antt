-- Rows in the bytes of a leaf: more bytes behind them, one entry more or less, a part of the entries.
use Rattle.std.proofs.Common.{◌≡◌, ℕ, zero, suc, ◌+◌, ◌<◌, ◌≤◌, Bool, true, List, [], ◌∷◌, ◌++◌, length, map, take, drop, set, get_or, refl, sym, ap, ◌∙◌, subst, arith, Ordering, Less, Equal, Greater}
use Rattle.std.specs.List.{AllByRecursion}
use Rattle.std.specs.FinMap.Entries.{by_order}
use Rattle.std.proofs.lemmas.List.{length-append, length-drop, length-take-le, drop-append-le, take-append-le, take-append-drop, get_or-map, map-set, map_push, map_more, take-map, drop-map}
use Rattle.std.specs.Str.{is_utf8}
use Rattle.semantics.specs.Texts.{Text, is_value, text_cmp, Table, with_pair, without_key, pairs_where}
use Rattle.semantics.proofs.TableLemmas.{IsAscending, ascending-with_pair, ascending-pairs_where}
use Rattle.join_rows.specs.declared.entry.Entry.{Entry}
use Rattle.join_rows.specs.Laid.{part_of, row_of, rows_of, IsWithin, Grows, IsRow, AreRows, AreLaid, LaidAs}
use Rattle.join_rows.specs.Found.{row_at, IsAt, IsGap}
use Rattle.join_rows.proofs.AllLemmas.{all_append, all_at, all_set, all_insert, all_remove, all_filter, all_weaker, all_take, all_drop}
use Rattle.join_rows.proofs.OrderedLemmas.{halves}
use Rattle.join_rows.proofs.FoundLemmas.{put_there, put_gap, remove_there}

-- ---- an entry that is read

pub within_at : (bytes : Text) (entries : List Entry) (i : ℕ) (e : Entry) → AreLaid bytes entries → i < length entries → e ≡ get_or entries i e → IsWithin bytes e
within_at bytes entries i e laid within is = subst (λ x. IsWithin bytes x) (sym is) (all_at (λ x. IsWithin bytes x) entries i e within laid.within)

pub row_read : (bytes : Text) (entries : List Entry) (i : ℕ) (e : Entry) → i < length entries → e ≡ get_or entries i e → row_at i (rows_of bytes entries) ≡ row_of bytes e
row_read bytes entries i e within is = get_or-map (row_of bytes) entries i e ([], []) within ∙ ap (row_of bytes) (sym is)

pub row_got : (bytes : Text) (entries : List Entry) (i : ℕ) (e : Entry) → i < length entries → row_at i (rows_of bytes entries) ≡ row_of bytes (get_or entries i e)
row_got bytes entries i e within = get_or-map (row_of bytes) entries i e ([], []) within

-- a row among others is a key and a value
pub row_own : (rows : Table) (i : ℕ) → AreRows rows → i < length rows → IsRow (row_at i rows)
row_own rows i are within = all_at (λ row. IsRow row) rows i ([], []) within are.each

length-part : (bytes : Text) (start count : ℕ) → start + count ≤ length bytes → length (part_of bytes start count) ≡ count
length-part bytes start count h = length-take-le count (drop start bytes) (omega (arith, length-drop start bytes))

pub length-key : (bytes : Text) (e : Entry) → IsWithin bytes e → length (row_of bytes e).0 ≡ e.key_len
length-key bytes e w = let fits = w.fits in length-part bytes e.start e.key_len (omega arith)

pub length-value : (bytes : Text) (e : Entry) → IsWithin bytes e → length (row_of bytes e).1 ≡ e.value_len
length-value bytes e w = let fits = w.fits in length-part bytes (e.start + e.key_len) e.value_len (omega arith)

-- ---- more bytes

part-append : (bytes more : Text) (start count : ℕ) → start + count ≤ length bytes → part_of (bytes ++ more) start count ≡ part_of bytes start count
part-append bytes more start count h =
    ap (take count) (drop-append-le start bytes more (omega arith)) ∙ take-append-le count (drop start bytes) more (omega (arith, length-drop start bytes))

row-append : (bytes more : Text) (e : Entry) → IsWithin bytes e → row_of (bytes ++ more) e ≡ row_of bytes e
row-append bytes more e w =
    let fits = w.fits in
    let key = part-append bytes more e.start e.key_len (omega arith) in
    let value = part-append bytes more (e.start + e.key_len) e.value_len (omega arith) in
    (λ i. (key i, value i))

rows-append : (bytes more : Text) (entries : List Entry) → AllByRecursion (λ e. IsWithin bytes e) entries → rows_of (bytes ++ more) entries ≡ rows_of bytes entries
rows-append bytes more [] w = refl
rows-append bytes more (e ∷ es) w =
    let first = row-append bytes more e w.0 in
    let rest = rows-append bytes more es w.1 in
    (λ i. first i ∷ rest i)

pub rows-grown : (bytes new : Text) (entries : List Entry) → Grows bytes new → AllByRecursion (λ e. IsWithin bytes e) entries → rows_of new entries ≡ rows_of bytes entries
rows-grown bytes new entries g w = ap (λ b. rows_of b entries) g.1 ∙ rows-append bytes g.0 entries w

within-append : (bytes more : Text) (e : Entry) → IsWithin bytes e → IsWithin (bytes ++ more) e
within-append bytes more e w = let fits = w.fits in record { fits = omega (arith, length-append bytes more); short_key = w.short_key; short_value = w.short_value }

pub within-grown : (bytes new : Text) (entries : List Entry) → Grows bytes new → AllByRecursion (λ e. IsWithin bytes e) entries → AllByRecursion (λ e. IsWithin new e) entries
within-grown bytes new entries g w =
    subst (λ (b : Text). AllByRecursion (λ e. IsWithin b e) entries) (sym g.1)
    (all_weaker (λ e. IsWithin bytes e) (λ e. IsWithin (bytes ++ g.0) e) (within-append bytes g.0) entries w)

-- entries of bytes that have grown are laid as they were
pub laid-grown : (bytes new : Text) (entries : List Entry) → Grows bytes new → AreLaid bytes entries → LaidAs (rows_of bytes entries) new entries
laid-grown bytes new entries g laid = record {
  laid = record {
    within = within-grown bytes new entries g laid.within;
    rows = subst (λ (rows : Table). AreRows rows) (sym (rows-grown bytes new entries g laid.within)) laid.rows;
  };
  is = rows-grown bytes new entries g laid.within;
}

-- one entry more at the end
pub rows-push : (bytes new : Text) (entries : List Entry) (e : Entry) (row : Text × Text) → Grows bytes new → AllByRecursion (λ x. IsWithin bytes x) entries → row_of new e ≡ row →
    rows_of new (entries ++ e ∷ []) ≡ rows_of bytes entries ++ row ∷ []
rows-push bytes new entries e row g w is =
    map_push (row_of new) entries e ∙ ap (λ (t : Table). t ++ row_of new e ∷ []) (rows-grown bytes new entries g w) ∙ ap (λ (r : Text × Text). rows_of bytes entries ++ r ∷ []) is

-- one entry more that is written again
pub copied_more : (bytes old new : Text) (entries places pushed : List Entry) (i : ℕ) (again d : Entry) → i < length entries → Grows old new → AllByRecursion (λ e. IsWithin old e) places →
    row_of new again ≡ row_of bytes (get_or entries i d) → rows_of old places ≡ rows_of bytes (take i entries) → pushed ≡ places ++ again ∷ [] → rows_of new pushed ≡ rows_of bytes (take (i + 1) entries)
copied_more bytes old new entries places pushed i again d within g w row so_far made =
    ap (rows_of new) made ∙ rows-push old new places again (row_of bytes (get_or entries i d)) g w row
    ∙ ap (λ (t : Table). t ++ row_of bytes (get_or entries i d) ∷ []) so_far ∙ sym (map_more (row_of bytes) entries i d within)

pub within_more : (old new : Text) (places pushed : List Entry) (again : Entry) → Grows old new → AllByRecursion (λ e. IsWithin old e) places → IsWithin new again → pushed ≡ places ++ again ∷ [] →
    AllByRecursion (λ e. IsWithin new e) pushed
within_more old new places pushed again g w own made =
    subst (λ (es : List Entry). AllByRecursion (λ e. IsWithin new e) es) (sym made) (all_append (λ e. IsWithin new e) places (again ∷ []) (within-grown old new places g w) (own, tt))

-- ---- rows with one more or less, and a part of them

over_row : (value : Text) (r : Text × Text) → IsRow r → is_value value ≡ true → is_utf8 value ≡ true → IsRow (r.0, value)
over_row value r own is text = record { key = own.key; key_text = own.key_text; value = is; value_text = text }

each_by : (key value : Text) (r : Text × Text) (rs more : Table) (o : Ordering) → IsRow (key, value) → IsRow r → AllByRecursion (λ row. IsRow row) rs → AllByRecursion (λ row. IsRow row) more →
    AllByRecursion (λ row. IsRow row) (by_order o ((key, value) ∷ r ∷ rs) ((r.0, value) ∷ rs) (r ∷ more))
each_by key value r rs more Less own first rest put = (own, (first, rest))
each_by key value r rs more Equal own first rest put = (over_row value r first own.value own.value_text, rest)
each_by key value r rs more Greater own first rest put = (first, put)

each_put : (key value : Text) (rows : Table) → IsRow (key, value) → AllByRecursion (λ row. IsRow row) rows → AllByRecursion (λ row. IsRow row) (with_pair key value rows)
each_put key value [] own each = (own, tt)
each_put key value (r ∷ rs) own each = each_by key value r rs (with_pair key value rs) (text_cmp key r.0) own each.0 each.1 (each_put key value rs own each.1)

pub rows-with_pair : (key value : Text) (rows : Table) → IsRow (key, value) → AreRows rows → AreRows (with_pair key value rows)
rows-with_pair key value rows own are = record { each = each_put key value rows own are.each; ascending = ascending-with_pair key value rows are.ascending }

pub rows-where : (test : Text → Bool) (rows : Table) → AreRows rows → AreRows (pairs_where test rows)
rows-where test rows are = record { each = all_filter (λ row. IsRow row) (λ e. test e.0) rows are.each; ascending = ascending-pairs_where test rows are.ascending }

ascending-take : (n : ℕ) (rows : Table) → IsAscending rows → IsAscending (take n rows)
ascending-take n rows h = (halves (take n rows) (drop n rows) (subst IsAscending (sym (take-append-drop n rows)) h)).first

ascending-drop : (n : ℕ) (rows : Table) → IsAscending rows → IsAscending (drop n rows)
ascending-drop n rows h = (halves (take n rows) (drop n rows) (subst IsAscending (sym (take-append-drop n rows)) h)).second

pub rows-take : (n : ℕ) (rows : Table) → AreRows rows → AreRows (take n rows)
rows-take n rows are = record { each = all_take (λ row. IsRow row) n rows are.each; ascending = ascending-take n rows are.ascending }

pub rows-drop : (n : ℕ) (rows : Table) → AreRows rows → AreRows (drop n rows)
rows-drop n rows are = record { each = all_drop (λ row. IsRow row) n rows are.each; ascending = ascending-drop n rows are.ascending }

-- ---- entries with one more or less, and a part of them

-- entries that lie within the bytes and have the rows of a table are laid
pub laid_as : (rows : Table) (bytes : Text) (entries : List Entry) → AllByRecursion (λ e. IsWithin bytes e) entries → rows_of bytes entries ≡ rows → AreRows rows → LaidAs rows bytes entries
laid_as rows bytes entries within is are = record {
  laid = record { within = within; rows = subst (λ (r : Table). AreRows r) (sym is) are };
  is = is;
}

map_insert : {X Y : Type 0} (f : X → Y) (xs : List X) (i : ℕ) (x : X) → map f (take i xs ++ x ∷ drop i xs) ≡ take i (map f xs) ++ f x ∷ drop i (map f xs)
map_insert f xs zero x = refl
map_insert f [] (suc i) x = refl
map_insert f (y ∷ ys) (suc i) x = ap (λ t. f y ∷ t) (map_insert f ys i x)

pub map_remove : {X Y : Type 0} (f : X → Y) (xs : List X) (i : ℕ) → map f (take i xs ++ drop (suc i) xs) ≡ take i (map f xs) ++ drop (suc i) (map f xs)
map_remove f [] zero = refl
map_remove f [] (suc i) = refl
map_remove f (y ∷ ys) zero = refl
map_remove f (y ∷ ys) (suc i) = ap (λ t. f y ∷ t) (map_remove f ys i)

module _ (bytes new : Text) (entries : List Entry) (e : Entry) (key value : Text) (laid : AreLaid bytes entries) (grown : Grows bytes new) (row : row_of new e ≡ (key, value)) (within : IsWithin new e) (own : IsRow (key, value)) where
  -- an entry in the place of the one that has the key
  pub laid_set : (i : ℕ) → IsAt key (rows_of bytes entries) i → LaidAs (with_pair key value (rows_of bytes entries)) new (set entries i e)
  laid_set i there = laid_as (with_pair key value (rows_of bytes entries)) new (set entries i e)
      (all_set (λ x. IsWithin new x) entries i e within (within-grown bytes new entries grown laid.within))
      (map-set (row_of new) entries i e
      ∙ ap (λ (t : Table). set t i (row_of new e)) (rows-grown bytes new entries grown laid.within)
      ∙ ap (λ (r : Text × Text). set (rows_of bytes entries) i r) row
      ∙ put_there key (rows_of bytes entries) i laid.rows.ascending there value)
      (rows-with_pair key value (rows_of bytes entries) own laid.rows)

  -- an entry in the gap where the key would stand
  pub laid_insert : (i : ℕ) → IsGap key (rows_of bytes entries) i → LaidAs (with_pair key value (rows_of bytes entries)) new (take i entries ++ e ∷ drop i entries)
  laid_insert i gap = laid_as (with_pair key value (rows_of bytes entries)) new (take i entries ++ e ∷ drop i entries)
      (all_insert (λ x. IsWithin new x) entries i e within (within-grown bytes new entries grown laid.within))
      (map_insert (row_of new) entries i e
      ∙ ap (λ (t : Table). take i t ++ row_of new e ∷ drop i t) (rows-grown bytes new entries grown laid.within)
      ∙ ap (λ (r : Text × Text). take i (rows_of bytes entries) ++ r ∷ drop i (rows_of bytes entries)) row
      ∙ put_gap key (rows_of bytes entries) i gap value)
      (rows-with_pair key value (rows_of bytes entries) own laid.rows)

-- without the entry of the key
pub laid_remove : (bytes : Text) (entries : List Entry) (key : Text) (i : ℕ) → AreLaid bytes entries → IsAt key (rows_of bytes entries) i →
    LaidAs (without_key key (rows_of bytes entries)) bytes (take i entries ++ drop (suc i) entries)
laid_remove bytes entries key i laid there = laid_as (without_key key (rows_of bytes entries)) bytes (take i entries ++ drop (suc i) entries)
    (all_remove (λ x. IsWithin bytes x) entries i laid.within)
    (map_remove (row_of bytes) entries i ∙ remove_there key (rows_of bytes entries) i laid.rows.ascending there)
    (rows-where _ (rows_of bytes entries) laid.rows)

-- so many entries from one on
pub laid_part : (bytes : Text) (entries : List Entry) (i n : ℕ) → AreLaid bytes entries → LaidAs (take n (drop i (rows_of bytes entries))) bytes (take n (drop i entries))
laid_part bytes entries i n laid = laid_as (take n (drop i (rows_of bytes entries))) bytes (take n (drop i entries))
    (all_take (λ x. IsWithin bytes x) n (drop i entries) (all_drop (λ x. IsWithin bytes x) i entries laid.within))
    (sym (take-map (row_of bytes) n (drop i entries)) ∙ ap (take n) (sym (drop-map (row_of bytes) i entries)))
    (rows-take n (drop i (rows_of bytes entries)) (rows-drop i (rows_of bytes entries) laid.rows))
