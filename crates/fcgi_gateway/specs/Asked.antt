-- What an application is asked (FastCGI Specification 1.0, sections 3.3, 5.1 to 5.3 and 6.2).
use Rattle.std.specs.Prelude.{ℕ, zero, suc, List, [], ◌∷◌, ◌++◌, length, take, drop, min}
use Rattle.cgi_text.specs.Request.{RequestParts}
use Rattle.cgi_text.specs.Params.{params}
use Rattle.fcgi_records.specs.Encoded.{header_of, begin_request}
use Rattle.fcgi_records.specs.declared.kinds.TheConstants.{PARAMS, STDIN}
use Rattle.fcgi_gateway.specs.declared.sending.TheConstants.{RECORD_SIZE}

-- a record with this content
abbrev pub record_of : ℕ → List ℕ → List ℕ
record_of kind content = header_of kind (length content) ++ content

-- at most n records with content, and an empty one
unfoldable pub records_in : ℕ → ℕ → List ℕ → List ℕ
records_in zero kind bytes = header_of kind 0
records_in (suc n) kind [] = header_of kind 0
records_in (suc n) kind (b ∷ bytes) =
    record_of kind (take RECORD_SIZE (b ∷ bytes)) ++ records_in n kind (drop RECORD_SIZE (b ∷ bytes))

-- a stream: records of at most 32,768 bytes, each with a byte at least, and an empty one
abbrev pub stream : ℕ → List ℕ → List ℕ
stream kind bytes = records_in (length bytes) kind bytes

-- BEGIN_REQUEST, the parameters, and the body
unfoldable pub asked : RequestParts → List ℕ → List ℕ
asked r body = begin_request ++ (stream PARAMS (params r) ++ stream STDIN body)

-- what comes before the content of a body of so many bytes
unfoldable pub lead_of : List ℕ → ℕ → List ℕ
lead_of params size = begin_request ++ (stream PARAMS params ++ header_of STDIN (min size RECORD_SIZE))
