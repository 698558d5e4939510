-- The entries of balances, which are listed one after another.
use Rattle.std.proofs.Common.{◌≡◌, ◌<◌, ◌≤◌, ◌+◌, ℕ, suc, List, [], ◌∷◌, ◌++◌, length, map, flat_map, get_or, drop, String, string_bytes, sym, ap, ◌∙◌, append_assoc, append-nil, drop-cons, drop_of_length-le, arith}
use Rattle.std.proofs.lemmas.List.{map-append}
use Rattle.settlement.specs.declared.account.Balance.{Balance}
use Rattle.intake_csv.specs.FamilyYears.{Members}
use Rattle.intake_csv.specs.Balances.{Book, Entry, accounts_from, accounts_in, opening_of}
use Rattle.intake_csv.specs.declared.entry.OpeningEntry.{OpeningEntry}

-- an entry of a map, by the bytes of its key
abbrev pub named : {Y V : Type 0} → String Y × V → List ℕ × V
named e = (string_bytes e.0, e.1)

-- the entry of a member of a family in a year
abbrev pub entry_in : List ℕ → ℕ → List ℕ × Balance → Entry
entry_in family year member = (record { family = family; member = member.0; year = year }, member.1)

-- one more entry is listed
pub listed-more : (before : List OpeningEntry) (held : OpeningEntry) (entry : Entry) → opening_of held ≡ entry → map opening_of (before ++ held ∷ []) ≡ map opening_of before ++ entry ∷ []
listed-more before held entry is = map-append opening_of before (held ∷ []) ∙ ap (λ e. map opening_of before ++ e ∷ []) is

-- the entry of one more member is listed
pub members-next : {Y : Type 0} (one : List ℕ × Balance → Entry) (done new whole : List Entry) (left rest : List (String Y × Balance)) (e : String Y × Balance) → left ≡ e ∷ rest
    → new ≡ done ++ one (named e) ∷ [] → done ++ map one (map named left) ≡ whole → new ++ map one (map named rest) ≡ whole
members-next one done new whole left rest e step listed so_far =
    ap (λ es. es ++ map one (map named rest)) listed ∙ append_assoc done (one (named e) ∷ []) (map one (map named rest))
    ∙ ap (λ es. done ++ map one (map named es)) (sym step) ∙ so_far

pub members-end : {Y : Type 0} (one : List ℕ × Balance → Entry) (done whole : List Entry) (left : List (String Y × Balance)) → left ≡ []
    → done ++ map one (map named left) ≡ whole → done ≡ whole
members-end one done whole left none so_far = sym (append-nil done) ∙ ap (λ es. done ++ map one (map named es)) (sym none) ∙ so_far

-- the first member and the others that are listed are all members
pub members-all : {Y : Type 0} (one : List ℕ × Balance → Entry) (before done : List Entry) (first : List ℕ × Balance) (left held : List (String Y × Balance)) → done ≡ before ++ one first ∷ []
    → left ≡ held → done ++ map one (map named left) ≡ before ++ map one (first ∷ map named held)
members-all one before done first left held is all =
    (λ i. is i ++ map one (map named (all i))) ∙ append_assoc before (one first ∷ []) (map one (map named held))

-- the entries of one more family are listed
pub families-next : {Y : Type 0} (year : ℕ) (done new whole : List Entry) (left rest : List (String Y × Members)) (e : String Y × Members) → left ≡ e ∷ rest
    → new ≡ done ++ accounts_in year (named e) → done ++ flat_map (accounts_in year) (map named left) ≡ whole → new ++ flat_map (accounts_in year) (map named rest) ≡ whole
families-next year done new whole left rest e step listed so_far =
    ap (λ es. es ++ flat_map (accounts_in year) (map named rest)) listed ∙ append_assoc done (accounts_in year (named e)) (flat_map (accounts_in year) (map named rest))
    ∙ ap (λ es. done ++ flat_map (accounts_in year) (map named es)) (sym step) ∙ so_far

pub families-end : {Y : Type 0} (year : ℕ) (done whole : List Entry) (left : List (String Y × Members)) → left ≡ []
    → done ++ flat_map (accounts_in year) (map named left) ≡ whole → done ≡ whole
families-end year done whole left none so_far = sym (append-nil done) ∙ ap (λ es. done ++ flat_map (accounts_in year) (map named es)) (sym none) ∙ so_far

-- the entries of one more year are listed
pub years-next : (books : List Book) (year : ℕ) (done new whole : List Entry) → year < length books → new ≡ done ++ flat_map (accounts_in year) (get_or books year [])
    → done ++ accounts_from year (drop year books) ≡ whole → new ++ accounts_from (year + 1) (drop (year + 1) books) ≡ whole
years-next books year done new whole within listed so_far =
    let following : year + 1 ≡ suc year = omega arith in
    let front = flat_map (accounts_in year) (get_or books year []) in
    let rest = accounts_from (suc year) (drop (suc year) books) in
    ap (λ n. new ++ accounts_from n (drop n books)) following
    ∙ ap (λ es. es ++ rest) listed ∙ append_assoc done front rest
    ∙ ap (λ bs. done ++ accounts_from year bs) (sym (drop-cons books year [] within)) ∙ so_far

pub years-end : (books : List Book) (year : ℕ) (done whole : List Entry) → length books ≤ year → done ++ accounts_from year (drop year books) ≡ whole → done ≡ whole
years-end books year done whole beyond so_far =
    sym (append-nil done) ∙ ap (λ bs. done ++ accounts_from year bs) (sym (drop_of_length-le books {i = year} beyond)) ∙ so_far
