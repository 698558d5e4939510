-- Lists and whole cells: a text denotes at most one, and none if a part of it cannot be read.
use Rattle.std.proofs.Common.{◌≡◌, ℕ, ◌+◌, ◌<◌, List, [], ◌∷◌, ◌++◌, length, refl, sym, ap, subst, ◌∙◌, ◌⊎◌, inl, inr, arith}
use Rattle.fixpoint.specs.NumberText.{DenotesAtMostOne}
use Rattle.feel_tests.specs.Words.{Word, Sign, Name, Begins, IsBlank}
use Rattle.feel_tests.specs.Grammar.{not_word, op_symbol, IsTest, IsList}
use Rattle.feel_tests.specs.Parts.{Denies, DeniesPart, IsWholeList}
use Rattle.feel_tests.specs.Cell.{IsNegation, SpellsCell}
use Rattle.feel_tests.specs.Limits.{test_limit}
use Rattle.feel_tests.specs.declared.symbol.Symbol.TheVariants as symbols
use Rattle.feel_tests.specs.declared.refusal.Refusal.{Refusal}
use Rattle.feel_tests.specs.declared.kind.Kind.{Kind}
use Rattle.feel_tests.specs.declared.cell.Test.{Test}
use Rattle.feel_tests.specs.declared.cell.Test.TheVariants.{Equal, Compare, Between}
use Rattle.feel_tests.specs.declared.cell.Cell.{Cell}
use Rattle.feel_tests.specs.declared.cell.Cell.TheVariants.{Dash, OneOf, NoneOf}
use Rattle.feel_tests.proofs.FirstWord.{blank_no_front}
use Rattle.feel_tests.proofs.OneWord.{one_sign, one_name, sign_name}
use Rattle.feel_tests.proofs.OneTest.{literal_first, literal_no_word, test_rest, test_value}
use Rattle.feel_tests.proofs.Denials.{sign_denied}

-- no comma follows
abbrev Ends : List ℕ → Type 0
Ends rest = (after : List ℕ) → ¬ Begins rest (Sign symbols.Comma) after

-- a blank text does not begin with a word
pub blank_no_word : (text : List ℕ) (word : Word) (rest : List ℕ) → IsBlank text → Begins text word rest → ⊥
blank_no_word text word rest blank b = blank_no_front b.front rest word (sym b.joined ∙ blank) b.spelled

pub blank_ends : (text : List ℕ) → IsBlank text → Ends text
blank_ends text blank after b = blank_no_word text (Sign symbols.Comma) after blank b

closed_ends : (text rest : List ℕ) → Begins text (Sign symbols.CloseRound) rest → Ends text
closed_ends text rest c after b = let e : symbols.CloseRound ≡ symbols.Comma = (one_sign text symbols.CloseRound rest symbols.Comma after c b).0 in cc

-- ---- lists

-- a list continues after the comma that follows its first tests
pub record GoesOn (kind : Kind) (after_comma : List ℕ) (front : ℕ) (tests : List Test) (end : List ℕ) : Type 0 where
  pub more : List Test
  pub count : length tests ≡ front + length more
  pub list : IsList kind after_comma more end

test_ends : (kind : Kind) (text : List ℕ) (test : Test) (rest after_comma : List ℕ) (other : Test) (end : List ℕ) → IsTest kind text test rest → Begins rest (Sign symbols.Comma) after_comma → IsTest kind text other end → Ends end → ⊥
test_ends kind text test rest after_comma other end h b k ends =
    ends after_comma (subst (λ (t : List ℕ). Begins t (Sign symbols.Comma) after_comma) (test_rest kind text test rest other end h k) b)

-- the text after the first comma is unique
comma_one : (kind : Kind) (text : List ℕ) (test : Test) (rest following : List ℕ) (other : Test) (after follow : List ℕ) → IsTest kind text test rest → Begins rest (Sign symbols.Comma) following → IsTest kind text other after → Begins after (Sign symbols.Comma) follow → following ≡ follow
comma_one kind text test rest following other after follow h b k c =
    (one_sign rest symbols.Comma following symbols.Comma follow b (subst (λ (t : List ℕ). Begins t (Sign symbols.Comma) follow) (sym (test_rest kind text test rest other after h k)) c)).1

pub list_longer : (kind : Kind) (text : List ℕ) (tests : List Test) (rest after_comma : List ℕ) (others : List Test) (end : List ℕ) → IsList kind text tests rest → Begins rest (Sign symbols.Comma) after_comma → IsList kind text others end → Ends end → GoesOn kind after_comma (length tests) others end
list_longer kind text [] rest after_comma others end h b k ends = absurd h
list_longer kind text (t ∷ []) rest after_comma [] end h b k ends = absurd k
list_longer kind text (t ∷ []) rest after_comma (u ∷ []) end h b k ends = absurd (test_ends kind text t rest after_comma u end h b k ends)
list_longer kind text (t ∷ []) rest after_comma (u ∷ v ∷ vs) end h b k ends =
    let same = comma_one kind text t rest after_comma u k.0 k.1 h b k.2 k.3 in
    record { more = v ∷ vs; count = omega arith; list = subst (λ (x : List ℕ). IsList kind x (v ∷ vs) end) (sym same) k.4 }
list_longer kind text (t ∷ n ∷ more) rest after_comma [] end h b k ends = absurd k
list_longer kind text (t ∷ n ∷ more) rest after_comma (u ∷ []) end h b k ends = absurd (test_ends kind text t h.0 h.1 u end h.2 h.3 k ends)
list_longer kind text (t ∷ n ∷ more) rest after_comma (u ∷ v ∷ vs) end h b k ends =
    let same = comma_one kind text t h.0 h.1 u k.0 k.1 h.2 h.3 k.2 k.3 in
    let on = list_longer kind h.1 (n ∷ more) rest after_comma (v ∷ vs) end h.4 b (subst (λ (x : List ℕ). IsList kind x (v ∷ vs) end) (sym same) k.4) ends in
    let count = on.count in
    record { more = on.more; count = omega (arith, count); list = on.list }

-- a list with one more test after the comma
pub list_more : (kind : Kind) (text : List ℕ) (tests : List Test) (rest after_comma : List ℕ) (test : Test) (end : List ℕ) → IsList kind text tests rest → Begins rest (Sign symbols.Comma) after_comma → IsTest kind after_comma test end → IsList kind text (tests ++ test ∷ []) end
list_more kind text [] rest after_comma test end h b k = absurd h
list_more kind text (t ∷ []) rest after_comma test end h b k = (rest, after_comma, h, b, k)
list_more kind text (t ∷ n ∷ more) rest after_comma test end h b k = (h.0, h.1, h.2, h.3, list_more kind h.1 (n ∷ more) rest after_comma test end h.4 b k)

list_first : (kind : Kind) (text : List ℕ) (tests : List Test) (end : List ℕ) (P : Type 0) → IsList kind text tests end → ((test : Test) (rest : List ℕ) → IsTest kind text test rest → P) → P
list_first kind text [] end P h f = absurd h
list_first kind text (t ∷ []) end P h f = f t end h
list_first kind text (t ∷ n ∷ more) end P h f = f t h.0 h.2

pub list_no_test : (kind : Kind) (text : List ℕ) (f : Refusal) → DeniesPart (IsTest kind text) f → DeniesPart (IsWholeList kind text) f
list_no_test kind text f d memory tests end h = list_first kind text tests end ⊥ h.0 (λ test rest k. d memory test rest k)

pub list_no_more : (kind : Kind) (text : List ℕ) (tests : List Test) (rest after_comma : List ℕ) (f : Refusal) → IsList kind text tests rest → Begins rest (Sign symbols.Comma) after_comma → DeniesPart (IsTest kind after_comma) f → DeniesPart (IsWholeList kind text) f
list_no_more kind text tests rest after_comma f l b d memory others end h =
    let on = list_longer kind text tests rest after_comma others end l b h.0 h.2 in
    list_first kind after_comma on.more end ⊥ on.list (λ test after k. d memory test after k)

some_tests : (kind : Kind) (text : List ℕ) (tests : List Test) (end : List ℕ) → IsList kind text tests end → 0 < length tests
some_tests kind text [] end h = absurd h
some_tests kind text (t ∷ more) end h = omega arith

pub list_too_long : (kind : Kind) (text : List ℕ) (tests : List Test) (rest after_comma : List ℕ) → IsList kind text tests rest → Begins rest (Sign symbols.Comma) after_comma → length tests ≡ test_limit → (others : List Test) (end : List ℕ) → IsWholeList kind text others end → ⊥
list_too_long kind text tests rest after_comma l b full others end h =
    let on = list_longer kind text tests rest after_comma others end l b h.0 h.2 in
    let some = some_tests kind after_comma on.more end on.list in
    let count = on.count in
    let few = h.1 in
    omega (arith, some, count, few, full)

-- the text after a list is unique
pub list_rest : (kind : Kind) (text : List ℕ) (tests : List Test) (rest : List ℕ) (others : List Test) (end : List ℕ) → IsList kind text tests rest → Ends rest → IsList kind text others end → Ends end → rest ≡ end
list_rest kind text [] rest others end h stops k ends = absurd h
list_rest kind text (t ∷ ts) rest [] end h stops k ends = absurd k
list_rest kind text (t ∷ []) rest (u ∷ []) end h stops k ends = test_rest kind text t rest u end h k
list_rest kind text (t ∷ []) rest (u ∷ v ∷ vs) end h stops k ends = absurd (test_ends kind text u k.0 k.1 t rest k.2 k.3 h stops)
list_rest kind text (t ∷ n ∷ more) rest (u ∷ []) end h stops k ends = absurd (test_ends kind text t h.0 h.1 u end h.2 h.3 k ends)
list_rest kind text (t ∷ n ∷ more) rest (u ∷ v ∷ vs) end h stops k ends =
    let same = comma_one kind text t h.0 h.1 u k.0 k.1 h.2 h.3 k.2 k.3 in
    list_rest kind h.1 (n ∷ more) rest (v ∷ vs) end h.4 stops (subst (λ (x : List ℕ). IsList kind x (v ∷ vs) end) (sym same) k.4) ends

-- the tests of a list are unique
list_value : DenotesAtMostOne → (kind : Kind) (text : List ℕ) (tests : List Test) (rest : List ℕ) (others : List Test) (end : List ℕ) → IsList kind text tests rest → Ends rest → IsList kind text others end → Ends end → tests ≡ others
list_value law kind text [] rest others end h stops k ends = absurd h
list_value law kind text (t ∷ ts) rest [] end h stops k ends = absurd k
list_value law kind text (t ∷ []) rest (u ∷ []) end h stops k ends = ap (λ (x : Test). x ∷ []) (test_value law kind text t rest u end h k)
list_value law kind text (t ∷ []) rest (u ∷ v ∷ vs) end h stops k ends = absurd (test_ends kind text u k.0 k.1 t rest k.2 k.3 h stops)
list_value law kind text (t ∷ n ∷ more) rest (u ∷ []) end h stops k ends = absurd (test_ends kind text t h.0 h.1 u end h.2 h.3 k ends)
list_value law kind text (t ∷ n ∷ more) rest (u ∷ v ∷ vs) end h stops k ends =
    let same = comma_one kind text t h.0 h.1 u k.0 k.1 h.2 h.3 k.2 k.3 in
    let firsts = test_value law kind text t h.0 u k.0 h.2 k.2 in
    let others = list_value law kind h.1 (n ∷ more) rest (v ∷ vs) end h.4 stops (subst (λ (x : List ℕ). IsList kind x (v ∷ vs) end) (sym same) k.4) ends in
    join t u (n ∷ more) (v ∷ vs) firsts others
  where
    join : (a b : Test) (xs ys : List Test) → a ≡ b → xs ≡ ys → a ∷ xs ≡ b ∷ ys
    join a b xs ys p q = cc

-- ---- the first word of a test

blank_no_test : (kind : Kind) (text : List ℕ) → IsBlank text → (test : Test) (rest : List ℕ) → IsTest kind text test rest → ⊥
blank_no_test kind text blank (Equal value) rest h = let first = literal_first kind text value rest h in blank_no_word text first.word first.after blank first.begins
blank_no_test kind text blank (Compare op value) rest h = blank_no_word text (Sign (op_symbol op)) h.literal blank h.operator
blank_no_test kind text blank (Between low low_in high high_in) rest h = blank_no_word text (Sign h.bracket) h.span blank h.opens

dash_no_test : (kind : Kind) (text after : List ℕ) → Begins text (Sign symbols.Dash) after → (test : Test) (rest : List ℕ) → IsTest kind text test rest → ⊥
dash_no_test kind text after b = sign_denied kind text symbols.Dash after b refl refl

not_no_test : (kind : Kind) (text after : List ℕ) → Begins text (Name not_word) after → (test : Test) (rest : List ℕ) → IsTest kind text test rest → ⊥
not_no_test kind text after b (Equal value) rest h = literal_no_word kind text value rest (Name not_word) after (omega arith) b h
not_no_test kind text after b (Compare op value) rest h = sign_name text (op_symbol op) h.literal not_word after h.operator b
not_no_test kind text after b (Between low low_in high high_in) rest h = sign_name text h.bracket h.span not_word after h.opens b

-- ---- whole cells

no_dash_list : (kind : Kind) (text : List ℕ) (tests : List Test) (rest : List ℕ) → (IsBlank text ⊎ ((after : List ℕ) × Begins text (Sign symbols.Dash) after × IsBlank after)) → IsList kind text tests rest → ⊥
no_dash_list kind text tests rest (inl blank) h = list_first kind text tests rest ⊥ h (blank_no_test kind text blank)
no_dash_list kind text tests rest (inr is) h = list_first kind text tests rest ⊥ h (dash_no_test kind text is.0 is.1)

no_dash_not : (kind : Kind) (text : List ℕ) (tests : List Test) → (IsBlank text ⊎ ((after : List ℕ) × Begins text (Sign symbols.Dash) after × IsBlank after)) → IsNegation kind text tests → ⊥
no_dash_not kind text tests (inl blank) h = blank_no_word text (Name not_word) h.after_word blank h.word
no_dash_not kind text tests (inr is) h = sign_name text symbols.Dash is.0 not_word h.after_word is.1 h.word

no_list_not : (kind : Kind) (text : List ℕ) (tests : List Test) (rest : List ℕ) (others : List Test) → IsList kind text tests rest → IsNegation kind text others → ⊥
no_list_not kind text tests rest others h k = list_first kind text tests rest ⊥ h (not_no_test kind text k.after_word k.word)

-- the text in the parentheses is unique
inside_one : (text word inner words opens : List ℕ) → Begins text (Name not_word) word → Begins word (Sign symbols.OpenRound) inner → Begins text (Name not_word) words → Begins words (Sign symbols.OpenRound) opens → inner ≡ opens
inside_one text word inner words opens b o c p =
    let same = (one_name text not_word word not_word words b c).1 in
    (one_sign word symbols.OpenRound inner symbols.OpenRound opens o (subst (λ (t : List ℕ). Begins t (Sign symbols.OpenRound) opens) (sym same) p)).1

pub cell_one : DenotesAtMostOne → (kind : Kind) (text : List ℕ) (one other : Cell) → SpellsCell kind text one → SpellsCell kind text other → one ≡ other
cell_one law kind text Dash Dash h k = refl
cell_one law kind text Dash (OneOf tests) h k = absurd (no_dash_list kind text tests k.0 h k.1)
cell_one law kind text Dash (NoneOf tests) h k = absurd (no_dash_not kind text tests h k)
cell_one law kind text (OneOf tests) Dash h k = absurd (no_dash_list kind text tests h.0 k h.1)
cell_one law kind text (OneOf tests) (OneOf others) h k =
    ap OneOf (list_value law kind text tests h.0 others k.0 h.1 (blank_ends h.0 h.3) k.1 (blank_ends k.0 k.3))
cell_one law kind text (OneOf tests) (NoneOf others) h k = absurd (no_list_not kind text tests h.0 others h.1 k)
cell_one law kind text (NoneOf tests) Dash h k = absurd (no_dash_not kind text tests k h)
cell_one law kind text (NoneOf tests) (OneOf others) h k = absurd (no_list_not kind text others k.0 tests k.1 h)
cell_one law kind text (NoneOf tests) (NoneOf others) h k =
    let same = inside_one text h.after_word h.after_open k.after_word k.after_open h.word h.opens k.word k.opens in
    let there = subst (λ (t : List ℕ). IsList kind t others k.after_list) (sym same) k.list in
    ap NoneOf (list_value law kind h.after_open tests h.after_list others k.after_list h.list (closed_ends h.after_list h.rest h.closes) there (closed_ends k.after_list k.rest k.closes))

-- ---- a part of a cell that cannot be read

pub dash_trailing : (kind : Kind) (text after : List ℕ) (f : Refusal) → ¬ IsBlank text → Begins text (Sign symbols.Dash) after → ¬ IsBlank after → Denies (SpellsCell kind text) f
dash_trailing kind text after f some b more memory Dash (inl blank) = some blank
dash_trailing kind text after f some b more memory Dash (inr dash) =
    more (subst (λ (t : List ℕ). IsBlank t) (one_sign text symbols.Dash dash.0 symbols.Dash after dash.1 b).1 dash.2)
dash_trailing kind text after f some b more memory (OneOf tests) h = list_first kind text tests h.0 ⊥ h.1 (dash_no_test kind text after b)
dash_trailing kind text after f some b more memory (NoneOf tests) h = sign_name text symbols.Dash after not_word h.after_word b h.word

pub list_denied : (kind : Kind) (text : List ℕ) (f : Refusal) → ¬ IsBlank text → ((after : List ℕ) → ¬ Begins text (Sign symbols.Dash) after) → ((after : List ℕ) → ¬ Begins text (Name not_word) after) → DeniesPart (IsWholeList kind text) f → Denies (SpellsCell kind text) f
list_denied kind text f some dash negated d memory Dash (inl blank) = some blank
list_denied kind text f some dash negated d memory Dash (inr is) = dash is.0 is.1
list_denied kind text f some dash negated d memory (OneOf tests) h = d memory tests h.0 (h.1, h.2, blank_ends h.0 h.3)
list_denied kind text f some dash negated d memory (NoneOf tests) h = negated h.after_word h.word

pub list_trailing : (kind : Kind) (text : List ℕ) (tests : List Test) (rest : List ℕ) (f : Refusal) → ¬ IsBlank text → ((after : List ℕ) → ¬ Begins text (Sign symbols.Dash) after) → ((after : List ℕ) → ¬ Begins text (Name not_word) after) → IsWholeList kind text tests rest → ¬ IsBlank rest → Denies (SpellsCell kind text) f
list_trailing kind text tests rest f some dash negated l more memory Dash (inl blank) = some blank
list_trailing kind text tests rest f some dash negated l more memory Dash (inr is) = dash is.0 is.1
list_trailing kind text tests rest f some dash negated l more memory (OneOf others) h =
    more (subst (λ (r : List ℕ). IsBlank r) (list_rest kind text others h.0 tests rest h.1 (blank_ends h.0 h.3) l.0 l.2) h.3)
list_trailing kind text tests rest f some dash negated l more memory (NoneOf others) h = negated h.after_word h.word

-- after `not`, only a negation is possible
not_denied : (kind : Kind) (text after_word : List ℕ) → Begins text (Name not_word) after_word → ((tests : List Test) → ¬ IsNegation kind text tests) → (cell : Cell) → SpellsCell kind text cell → ⊥
not_denied kind text after_word b none Dash (inl blank) = blank_no_word text (Name not_word) after_word blank b
not_denied kind text after_word b none Dash (inr is) = sign_name text symbols.Dash is.0 not_word after_word is.1 b
not_denied kind text after_word b none (OneOf tests) h = list_first kind text tests h.0 ⊥ h.1 (not_no_test kind text after_word b)
not_denied kind text after_word b none (NoneOf tests) h = none tests h

pub not_no_open : (kind : Kind) (text after_word : List ℕ) (f : Refusal) → Begins text (Name not_word) after_word → ((rest : List ℕ) → ¬ Begins after_word (Sign symbols.OpenRound) rest) → Denies (SpellsCell kind text) f
not_no_open kind text after_word f b none memory =
    not_denied kind text after_word b (λ tests h. none h.after_open (subst (λ (t : List ℕ). Begins t (Sign symbols.OpenRound) h.after_open) (one_name text not_word h.after_word not_word after_word h.word b).1 h.opens))

pub not_no_list : (kind : Kind) (text after_word after_open : List ℕ) (f : Refusal) → Begins text (Name not_word) after_word → Begins after_word (Sign symbols.OpenRound) after_open → DeniesPart (IsWholeList kind after_open) f → Denies (SpellsCell kind text) f
not_no_list kind text after_word after_open f b o d memory =
    not_denied kind text after_word b (λ tests h. d memory tests h.after_list (subst (λ (t : List ℕ). IsList kind t tests h.after_list) (inside_one text h.after_word h.after_open after_word after_open h.word h.opens b o) h.list, h.few, closed_ends h.after_list h.rest h.closes))

-- the text after the list in the parentheses
list_end : (kind : Kind) (text after_word after_open : List ℕ) (tests : List Test) (after_list : List ℕ) (others : List Test) → Begins text (Name not_word) after_word → Begins after_word (Sign symbols.OpenRound) after_open → IsWholeList kind after_open tests after_list → (h : IsNegation kind text others) → h.after_list ≡ after_list
list_end kind text after_word after_open tests after_list others b o l h =
    let there = subst (λ (t : List ℕ). IsList kind t others h.after_list) (inside_one text h.after_word h.after_open after_word after_open h.word h.opens b o) h.list in
    list_rest kind after_open others h.after_list tests after_list there (closed_ends h.after_list h.rest h.closes) l.0 l.2

pub not_no_close : (kind : Kind) (text after_word after_open : List ℕ) (tests : List Test) (after_list : List ℕ) (f : Refusal) → Begins text (Name not_word) after_word → Begins after_word (Sign symbols.OpenRound) after_open → IsWholeList kind after_open tests after_list → ((rest : List ℕ) → ¬ Begins after_list (Sign symbols.CloseRound) rest) → Denies (SpellsCell kind text) f
not_no_close kind text after_word after_open tests after_list f b o l none memory =
    not_denied kind text after_word b (λ others h. none h.rest (subst (λ (t : List ℕ). Begins t (Sign symbols.CloseRound) h.rest) (list_end kind text after_word after_open tests after_list others b o l h) h.closes))

pub not_trailing : (kind : Kind) (text after_word after_open : List ℕ) (tests : List Test) (after_list rest : List ℕ) (f : Refusal) → Begins text (Name not_word) after_word → Begins after_word (Sign symbols.OpenRound) after_open → IsWholeList kind after_open tests after_list → Begins after_list (Sign symbols.CloseRound) rest → ¬ IsBlank rest → Denies (SpellsCell kind text) f
not_trailing kind text after_word after_open tests after_list rest f b o l c more memory =
    not_denied kind text after_word b (λ others h.
    let ends = list_end kind text after_word after_open tests after_list others b o l h in
    let closes = one_sign after_list symbols.CloseRound h.rest symbols.CloseRound rest (subst (λ (t : List ℕ). Begins t (Sign symbols.CloseRound) h.rest) ends h.closes) c in
    more (subst (λ (t : List ℕ). IsBlank t) closes.1 h.blank))
