-- Records to an application, all of request 1 and without padding (FastCGI Specification 1.0, sections 3.3 and 5.1).
use Rattle.std.specs.Prelude.{ℕ, ◌/◌, ◌%◌, List, [], ◌∷◌}

-- version, type, request id, content length, padding length and a reserved byte
abbrev pub header_of : ℕ → ℕ → List ℕ
header_of kind length = 1 ∷ kind ∷ 0 ∷ 1 ∷ length / 256 ∷ length % 256 ∷ 0 ∷ 0 ∷ []

-- BEGIN_REQUEST: role FCGI_RESPONDER, no flags, five reserved bytes
abbrev pub begin_request : List ℕ
begin_request = 1 ∷ 1 ∷ 0 ∷ 1 ∷ 0 ∷ 8 ∷ 0 ∷ 0 ∷ 0 ∷ 1 ∷ 0 ∷ 0 ∷ 0 ∷ 0 ∷ 0 ∷ 0 ∷ []
