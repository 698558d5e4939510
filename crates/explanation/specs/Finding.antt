-- The claims with an identifier.
use Rattle.std.specs.Prelude.{◌≡◌, ℕ, suc, cond, List, [], ◌∷◌, ◌++◌, flat_map, length, Option, Some, None}
use Rattle.std.specs.List.{AllZip}
use Rattle.std.specs.Str.{bytes_eq}
use Rattle.intake_csv.specs.Rows.{AreRowsOf}
use Rattle.intake_csv.specs.declared.rows.Row.{Row}
use Rattle.intake_csv.specs.declared.rows.Row.TheVariants.{Good, Bad}
use Rattle.claim_gate.specs.Terms.{TermsParts}
use Rattle.explanation.specs.declared.finding.FoundClaim.{FoundClaim}
use Rattle.explanation.specs.declared.row.Place.{Place}

-- the place of a row of the provider's file, if it is a claim with the identifier
abbrev pub place_with : List ℕ → ℕ → Row → List Place
place_with id provider (Good number place claim) = cond (bytes_eq claim.id id) (record { provider = provider; number = number } ∷ []) []
place_with id provider (Bad number fault) = []

-- the places of the claims with the identifier among rows of the provider's file
abbrev pub places_in : List ℕ → ℕ → List Row → List Place
places_in id provider rows = flat_map (place_with id provider) rows

-- the places of the claims with the identifier in all files, file by file; the first of them is this provider's
abbrev pub places_of : List ℕ → ℕ → List (List Row) → List Place
places_of id provider [] = []
places_of id provider (rows ∷ rest) = places_in id provider rows ++ places_of id (suc provider) rest

-- the first of the places, and the number of the others
abbrev pub found_in : List Place → Option FoundClaim
found_in [] = None
found_in (place ∷ others) = Some (record { place = place; others = length others })

-- this is found of the identifier: the first claim that has it, and how many further claims have it
abbrev pub IsFound : TermsParts → List ℕ → Option FoundClaim → Type 0
IsFound parts id found = (files : List (List Row)) → AllZip (AreRowsOf parts.plan.names) parts.files files → found ≡ found_in (places_of id 1 files)
