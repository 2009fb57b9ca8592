-- The headers of the row formats' blocks. Document 01, "The block"; the words and their columns are those of source document 003.
use Rattle.std.specs.Prelude.{ℕ, ◌+◌, ◌-◌, List, [], ◌∷◌, ◌++◌, length, replicate}
use Prim.Native.String.{String}
use Rattle.formats.specs.Words.{bytes_of}

-- words with the columns that they begin in, from a column on, blanks between them
unfoldable pub spaced_from : ℕ → List (ℕ × String) → List ℕ
spaced_from column [] = []
spaced_from column ((begin, w) ∷ ws) =
    replicate (begin - column) 32 ++ (bytes_of w ++ spaced_from (begin + length (bytes_of w)) ws)

abbrev pub phase_words : List (ℕ × String)
phase_words =
    (1, "Sta")
    ∷ (9, "Dist")
    ∷ (15, "EvAz")
    ∷ (20, "Phase")
    ∷ (33, "Time")
    ∷ (43, "TRes")
    ∷ (49, "Azim")
    ∷ (54, "AzRes")
    ∷ (62, "Slow")
    ∷ (69, "SRes")
    ∷ (74, "Def")
    ∷ (80, "SNR")
    ∷ (90, "Amp")
    ∷ (96, "Per")
    ∷ (100, "Qual")
    ∷ (105, "Magnitude")
    ∷ (118, "ArrID")
    ∷ (127, "Agy")
    ∷ (133, "Deploy")
    ∷ (142, "Ln")
    ∷ (145, "Auth")
    ∷ (151, "Rep")
    ∷ (157, "PCh")
    ∷ (161, "ACh")
    ∷ (165, "L")
    ∷ (169, "Lat")
    ∷ (179, "Lon")
    ∷ (187, "Elev")
    ∷ (195, "Depth")
    ∷ []

unfoldable pub phase_header : List ℕ
phase_header = spaced_from 1 phase_words

-- source document 003, "Automatic Arrival Format": 27 words
abbrev pub arrival_words : List (ℕ × String)
arrival_words =
    (1, "Net")
    ∷ (11, "Sta")
    ∷ (17, "BeamID")
    ∷ (33, "Date")
    ∷ (44, "Time")
    ∷ (54, "Phase")
    ∷ (64, "Azim")
    ∷ (70, "Slow")
    ∷ (77, "SNR")
    ∷ (87, "Amp")
    ∷ (93, "Per")
    ∷ (99, "STA")
    ∷ (105, "Dur")
    ∷ (109, "Author")
    ∷ (122, "DetID")
    ∷ (131, "Agy")
    ∷ (137, "Deploy")
    ∷ (146, "Ln")
    ∷ (149, "Auth")
    ∷ (155, "Rep")
    ∷ (161, "PCh")
    ∷ (165, "ACh")
    ∷ (169, "L")
    ∷ (173, "Lat")
    ∷ (183, "Lon")
    ∷ (191, "Elev")
    ∷ (199, "Depth")
    ∷ []

unfoldable pub arrival_header : List ℕ
arrival_header = spaced_from 1 arrival_words
