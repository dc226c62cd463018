-- Worked rows: what is written of small instances.
use Rattle.std.proofs.Common.{◌≡◌, [], ◌∷◌, ◌++◌, refl}
use Rattle.std.specs.Prelude.{codes}
use Rattle.std.specs.Fmt.{digits}
use Rattle.rc_instance.specs.Parts.{made}
use Rattle.rc_instance.specs.Project.{Project, duration, demand, successors_of}
use Rattle.psplib_read.specs.Written.{ruler, resource_names, preamble, relation, relations, request, requests, availabilities, sm_text}

-- two jobs, the second a successor of the first, and one resource
two : Project
two = made (12 ∷ []) (3 ∷ 0 ∷ []) (10 ∷ 0 ∷ []) ((2 ∷ []) ∷ [] ∷ [])

-- their text
two_text : sm_text two
    ≡ ruler ++ codes "\nprojects                      :  1\njobs (incl. supersource/sink ):  2\n"
    ++ codes "horizon                       :  3\nRESOURCES\n"
    ++ codes "  - renewable                 :  1   R\n"
    ++ codes "  - nonrenewable              :  0   N\n  - doubly constrained        :  0   D\n"
    ++ ruler ++ codes "\nPRECEDENCE RELATIONS:\njobnr.    #modes  #successors   successors\n"
    ++ codes "   1        1          1    2\n   2        1          0\n"
    ++ ruler ++ codes "\nREQUESTS/DURATIONS:\njobnr. mode duration  R 1\n"
    ++ codes "   1     1        3      10\n   2     1        0       0\n"
    ++ ruler ++ codes "\nRESOURCEAVAILABILITIES:\n  R 1\n      12\n" ++ ruler ++ codes "\n"
unfolding two made duration demand successors_of resource_names preamble relation relations request
    requests availabilities sm_text digits
two_text = refl

-- without resources both lines of the last section are empty
none_text : availabilities (made [] (5 ∷ []) [] ([] ∷ []))
    ≡ ruler ∷ codes "RESOURCEAVAILABILITIES:" ∷ [] ∷ [] ∷ ruler ∷ []
unfolding made resource_names availabilities digits
none_text = refl
