-- Ranges of files as items.
use Rattle.std.proofs.Common.{zero, suc, ◌≡◌, ℕ, ◌+◌, ◌-◌, ◌≤◌, ◌<◌, List, [], ◌∷◌, ◌++◌, length, take, drop, get_or, Option, Some, unwrap_or, arith, ap, sym, ◌∙◌, refl, drop-cons, add-one}
use Rattle.std.proofs.lemmas.List.{take-append-le, take-map, length-take-le, length-drop}
use Rattle.lt_world.specs.Disk.{Table, Disk, HasRange, range_of}
use Rattle.chunkqueue.specs.Items.{Item, FileByte, range, AllLie, item_byte, bytes_of}

pub length-range : (file start len : ℕ) → length (range file start len) ≡ len
length-range file start zero = refl
length-range file start (suc len) = omega (arith, length-range file (start + 1) len)

same_range : (file : ℕ) {a b m n : ℕ} → a ≡ b → m ≡ n → range file a m ≡ range file b n
same_range file p q = cc

pub drop-range : (file start len n : ℕ) → n ≤ len → drop n (range file start len) ≡ range file (start + n) (len - n)
drop-range file start len zero h = same_range file (omega arith) (omega arith)
drop-range file start zero (suc n) h = absurd (omega arith)
drop-range file start (suc len) (suc n) h = drop-range file (start + 1) len n (omega arith) ∙ same_range file (omega arith) (omega arith)

-- the table has the range that the items lie in
pub lies-range : (table : Table) (file start len : ℕ) (rest : List Item) → 0 < len → AllLie table (range file start len ++ rest) → (bytes : List ℕ) × (table file ≡ Some bytes) × (start + len ≤ length bytes)
lies-range table file start zero rest h lies = absurd (omega arith)
lies-range table file start (suc zero) rest h lies = (lies.0.0, lies.0.1, omega (arith, lies.0.2))
lies-range table file start (suc (suc len)) rest h lies =
    let more = lies-range table file (start + 1) (suc len) rest (omega arith) lies.1 in
    (more.0, more.1, omega (arith, more.2))

byte_at : (table : Table) (file start : ℕ) (bytes : List ℕ) → table file ≡ Some bytes → item_byte table (FileByte file start) ≡ get_or bytes start 0
byte_at table file start bytes is = ap (λ (o : Option (List ℕ)). get_or (unwrap_or o []) start 0) is

next_dropped : (start len : ℕ) (bytes : List ℕ) → take len (drop (start + 1) bytes) ≡ take len (drop (suc start) bytes)
next_dropped start len bytes = rw add-one refl

same_cons : {x y : ℕ} {xs ys : List ℕ} → x ≡ y → xs ≡ ys → x ∷ xs ≡ y ∷ ys
same_cons p q = cc

pub bytes_of-range : (table : Table) (file start len : ℕ) (bytes : List ℕ) → table file ≡ Some bytes → start + len ≤ length bytes → bytes_of table (range file start len) ≡ take len (drop start bytes)
bytes_of-range table file start zero bytes is h = refl
bytes_of-range table file start (suc len) bytes is h =
    let front : start < length bytes = omega arith in
    let rest : bytes_of table (range file (start + 1) len) ≡ take len (drop (start + 1) bytes) = bytes_of-range table file (start + 1) len bytes is (omega arith) in
    rw (drop-cons bytes start 0) (same_cons (byte_at table file start bytes is) (rest ∙ next_dropped start len bytes))

pub take-range : (file start len n : ℕ) → n ≤ len → take n (range file start len) ≡ range file start n
take-range file start len zero h = refl
take-range file start zero (suc n) h = absurd (omega arith)
take-range file start (suc len) (suc n) h = ap (λ (items : List Item). FileByte file start ∷ items) (take-range file (start + 1) len n (omega arith))

opened_range : (disk : Disk) (file start n : ℕ) (bytes : List ℕ) → disk.table file ≡ Some bytes → range_of disk file start n ≡ take n (drop start bytes)
opened_range disk file start n bytes is = ap (λ (o : Option (List ℕ)). take n (drop start (unwrap_or o []))) is

front_bytes : (table : Table) (file start len n : ℕ) (rest : List Item) (bytes : List ℕ) → n ≤ len → table file ≡ Some bytes → start + n ≤ length bytes
    → take n (drop start bytes) ≡ take n (bytes_of table (range file start len ++ rest))
front_bytes table file start len n rest bytes h is fits =
    let within : n ≤ length (range file start len) = omega (arith, length-range file start len) in
    let items : take n (range file start len ++ rest) ≡ range file start n = take-append-le n (range file start len) rest within ∙ take-range file start len n h in
    sym (take-map (item_byte table) n (range file start len ++ rest) ∙ ap (bytes_of table) items ∙ bytes_of-range table file start n bytes is fits)

long_range : (start n : ℕ) (bytes : List ℕ) → start + n ≤ length bytes → length (take n (drop start bytes)) ≡ n
long_range start n bytes fits = length-take-le n (drop start bytes) (omega (arith, length-drop start bytes))

-- the range that a read gives is the bytes of the first items
pub range_of-length : (disk : Disk) (file start n : ℕ) → HasRange disk file start n → length (range_of disk file start n) ≡ n
range_of-length disk file start n has = ap length (opened_range disk file start n has.0 has.1) ∙ long_range start n has.0 has.2

pub range_of-front : (disk : Disk) (file start len n : ℕ) (rest : List Item) → n ≤ len → HasRange disk file start n
    → range_of disk file start n ≡ take (length (range_of disk file start n)) (bytes_of disk.table (range file start len ++ rest))
range_of-front disk file start len n rest h has =
    opened_range disk file start n has.0 has.1 ∙ front_bytes disk.table file start len n rest has.0 h has.1 has.2
    ∙ ap (λ (k : ℕ). take k (bytes_of disk.table (range file start len ++ rest))) (sym (range_of-length disk file start n has))
