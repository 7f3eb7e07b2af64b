-- How the program is called.
use Rattle.std.specs.Prelude.{ℕ, List, ◌++◌, codes}
use Rattle.qpk.specs.declared.usage.Topic.{Topic}
use Rattle.qpk.specs.declared.usage.Topic.TheVariants as topic

-- the line for words that give none of its four commands, and none beyond these
abbrev pub usage_line : List ℕ
usage_line =
    codes "usage: qpk encode | qpk decode LIMIT | qpk run CAPACITY LIMIT | qpk inspect CAPACITY\n"

-- the version
abbrev pub version_line : List ℕ
version_line = codes "qpk 0.1.0\n"

-- how the program is called
unfoldable pub all_usage : List ℕ
all_usage =
    codes "usage: qpk COMMAND .. <INPUT    encodes, decodes and explains QPACK, the header compression of HTTP/3 (RFC 9204)\n"
    ++ codes "       qpk help COMMAND         says more about a command, with an example\n"

-- the details of how the program is called
unfoldable pub all_details : List ℕ
all_details =
    codes "\n"
    ++ codes "To debug a connection:\n"
    ++ codes "  show     a recorded connection in words: each instruction, each section, each field\n"
    ++ codes "  check    a verdict on a recorded connection: what is wrong, where, and why that may be\n"
    ++ codes "  explain  bytes, each with its bits and what they mean; no connection is needed\n"
    ++ codes "To encode and decode:\n"
    ++ codes "  encode   fields to a section, or header lists in QIF to a recording\n"
    ++ codes "  decode   a section without the dynamic table to its fields, or a recording to QIF\n"
    ++ codes "By numbers:\n"
    ++ codes "  inspect  a recorded connection as numbers\n"
    ++ codes "  run      a script of events on two ends\n"
    ++ codes "\n"
    ++ codes "-h, --help and help print this text, qpk COMMAND --help that of a command, and --version the version.\n"
    ++ codes "Status: 0, the answer is on standard output; 1, words or input were refused, as standard error says, or check found\n"
    ++ codes "something; 2, show or explain printed something that is refused.\n"

-- how `encode` is called
unfoldable pub encode_usage : List ℕ
encode_usage =
    codes "usage: qpk encode <FIELDS\n"
    ++ codes "       qpk encode --qif CAPACITY BLOCKED ACK <LISTS\n"

-- the details of how `encode` is called
unfoldable pub encode_details : List ℕ
encode_details =
    codes "\n"
    ++ codes "Reads fields, a line each: the name, a TAB and the value. Prints their section in hexadecimal.\n"
    ++ codes "  printf ':method\\tGET\\n' | qpk encode\n"
    ++ codes "  0000d1\n"
    ++ codes "Only a line feed ends a line: a carriage return before it is part of the value.\n"
    ++ codes "\n"
    ++ codes "With --qif it reads header lists in QIF, and writes a recording of the offline interop. CAPACITY is that of the table in\n"
    ++ codes "bytes, and BLOCKED how many streams may be blocked. ACK is 1 if each section is acknowledged before the next list, else 0.\n"

-- how `decode` is called
unfoldable pub decode_usage : List ℕ
decode_usage =
    codes "usage: qpk decode [--hex | --json] LIMIT <SECTION\n"
    ++ codes "       qpk decode --qif CAPACITY BLOCKED <RECORDING\n"

-- the details of how `decode` is called
unfoldable pub decode_details : List ℕ
decode_details =
    codes "\n"
    ++ codes "Reads a section in hexadecimal, and prints its fields. LIMIT is the most bytes that the fields may have together, each\n"
    ++ codes "with 32 more than its name and its value.\n"
    ++ codes "  echo 0000d1 | qpk decode 42\n"
    ++ codes "  :method\tGET\n"
    ++ codes "  size 42\n"
    ++ codes "With --hex names and values are in hexadecimal, and a minus if they are empty. With --json the answer is an object; what is\n"
    ++ codes "not UTF-8 is an object whose hex has its bytes.\n"
    ++ codes "\n"
    ++ codes "A section that needs the dynamic table is refused: qpk show reads it with its connection, and qpk explain reads it alone.\n"
    ++ codes "qpk explain also says at which byte a section is at fault.\n"
    ++ codes "\n"
    ++ codes "With --qif it reads a recording of the offline interop, and writes its header lists in QIF.\n"

-- how `inspect` is called
unfoldable pub inspect_usage : List ℕ
inspect_usage =
    codes "usage: qpk inspect CAPACITY <RECORDING\n"

-- the details of how `inspect` is called
unfoldable pub inspect_details : List ℕ
inspect_details =
    codes "\n"
    ++ codes "Reads lines: e TAB HEX, bytes of the encoder stream, and b TAB HEX, a section. Prints what they are, in numbers. The table\n"
    ++ codes "begins empty, with CAPACITY bytes.\n"
    ++ codes "  printf 'b\\t0000d1\\n' | qpk inspect 4096\n"
    ++ codes "  prefix 0 0\n"
    ++ codes "  indexed static 17\n"
    ++ codes "  fields 1 42\n"
    ++ codes "qpk show and qpk check read recordings too, whose lines name the stream of a section, and say why something is refused.\n"

-- how `run` is called
unfoldable pub run_usage : List ℕ
run_usage =
    codes "usage: qpk run CAPACITY LIMIT <SCRIPT\n"

-- the details of how `run` is called
unfoldable pub run_details : List ℕ
run_details =
    codes "\n"
    ++ codes "Runs a script on the two ends of a connection. CAPACITY is that of both tables in bytes, and at most LIMIT sections may be\n"
    ++ codes "blocked. The events: encode STREAM NAME VALUE .., decode STREAM, todecoder N, toencoder N, ack STREAM, cancel STREAM and\n"
    ++ codes "setcapacity N, with TABs between their words.\n"
    ++ codes "  printf 'encode\\t4\\tfoo\\tbar\\n' | qpk run 4096 1\n"
    ++ codes "  encoded 1 028010 6294e7838c767f\n"

-- how `show` is called
unfoldable pub show_usage : List ℕ
show_usage =
    codes "usage: qpk show [--table] [--json] [--max-capacity N] [--max-blocked N] [--qif] [FILE]\n"
    ++ codes "       qpk show CAPTURE --keys KEYLOG [--connection N] [--stream N]\n"

-- the details of how `show` is called
unfoldable pub show_details : List ℕ
show_details =
    codes "\n"
    ++ codes "Prints what a recorded connection says: each instruction with the offset on its stream, each section with its fields.\n"
    ++ codes "  printf 'b 4 028010\\ne 3fe11f6294e7838c767f\\n' | qpk show\n"
    ++ codes "  section 4: blocked until insertion 1\n"
    ++ codes "  encoder 0: set capacity 4096\n"
    ++ codes "  encoder 3: insert as entry 1, foo: bar\n"
    ++ codes "  section 4: unblocked, required insert count 1, base 0\n"
    ++ codes "    2 post-base 0 (entry 1), foo: bar\n"
    ++ codes "\n"
    ++ codes "A line of a recording is one of these, its words separated by blanks or TABs:\n"
    ++ codes "  e HEX                bytes of the encoder stream, without the byte of its type\n"
    ++ codes "  d HEX                bytes of the decoder stream, without the byte of its type\n"
    ++ codes "  b STREAM HEX         a section of a stream\n"
    ++ codes "  c STREAM             the decoder reads the stream no further\n"
    ++ codes "  s CAPACITY BLOCKED   SETTINGS: the decoder's maximum table capacity, and how many streams may be blocked\n"
    ++ codes "> before a line says that the client sent it or did it, and < the server; then all lines have one of them. @TIME before\n"
    ++ codes "that is when. HEX may have blanks, colons and 0x. Empty lines and lines that begin with # are skipped.\n"
    ++ codes "\n"
    ++ codes "--table            print the table after each instruction of the encoder stream\n"
    ++ codes "--json             print an object a line\n"
    ++ codes "--max-capacity N   the maximum table capacity in bytes, where no line s has it; else 4096\n"
    ++ codes "--max-blocked N    how many streams may be blocked, where no line s has it; else 100\n"
    ++ codes "--qif              read a recording of the offline interop\n"
    ++ codes "Status 2 says that something was refused.\n"

-- how `explain` is called
unfoldable pub explain_usage : List ℕ
explain_usage =
    codes "usage: qpk explain [--encoder-stream | --decoder-stream] [--max-capacity N] [HEX..]\n"

-- the details of how `explain` is called
unfoldable pub explain_details : List ℕ
explain_details =
    codes "\n"
    ++ codes "Prints each byte with its offset, its bits and what they mean. The bytes are those of a section, or, by an option, of a\n"
    ++ codes "stream of instructions, without the byte of its type. Without HEX they are read from standard input.\n"
    ++ codes "  qpk explain 0000d1\n"
    ++ codes "     0  00  00000000      required insert count: 0, so no line references the dynamic table\n"
    ++ codes "     1  00  0 0000000     base: sign 0, delta 0: required insert count + 0\n"
    ++ codes "     2  d1  1 1 010001    indexed, static 17: :method: GET\n"
    ++ codes "A required insert count depends on the maximum capacity: --max-capacity N in bytes, else 4096. An entry is named by its\n"
    ++ codes "distance from the base, which only a connection tells: qpk show.\n"
    ++ codes "Status 2 says that bytes could not be read.\n"

-- how `check` is called
unfoldable pub check_usage : List ℕ
check_usage =
    codes "usage: qpk check [--json] [--max-capacity N] [--max-blocked N] [--qif] [FILE]\n"
    ++ codes "       qpk check CAPTURE --keys KEYLOG [--connection N]\n"

-- the details of how `check` is called
unfoldable pub check_details : List ℕ
check_details =
    codes "\n"
    ++ codes "Prints a line for each thing in a recorded connection that a strict end refuses: the line of the recording, the place on\n"
    ++ codes "the stream, the section of RFC 9204, the code that ends the connection, and a likely cause. The status is 1 then, else 0.\n"
    ++ codes "  printf 'e 6294e7838c767f\\n' | qpk check\n"
    ++ codes "  line 1: encoder stream, byte 0, instruction 1: insertion while the capacity is 0: no Set Dynamic Table Capacity came before it [RFC 9204, section 3.2.2; 0x0201 QPACK_ENCODER_STREAM_ERROR]; likely cause: the encoder takes the maximum for the capacity, or the recording begins late\n"
    ++ codes "\n"
    ++ codes "A line of a recording is one of these, its words separated by blanks or TABs:\n"
    ++ codes "  e HEX                bytes of the encoder stream, without the byte of its type\n"
    ++ codes "  d HEX                bytes of the decoder stream, without the byte of its type\n"
    ++ codes "  b STREAM HEX         a section of a stream\n"
    ++ codes "  c STREAM             the decoder reads the stream no further\n"
    ++ codes "  s CAPACITY BLOCKED   SETTINGS: the decoder's maximum table capacity, and how many streams may be blocked\n"
    ++ codes "> before a line says that the client sent it or did it, and < the server; then all lines have one of them. @TIME before\n"
    ++ codes "that is when. HEX may have blanks, colons and 0x. Empty lines and lines that begin with # are skipped.\n"
    ++ codes "\n"
    ++ codes "--json             print an object a line\n"
    ++ codes "--max-capacity N   the maximum table capacity in bytes, where no line s has it; else 4096\n"
    ++ codes "--max-blocked N    how many streams may be blocked, where no line s has it; else 100\n"
    ++ codes "--qif              read a recording of the offline interop\n"

-- how a command is called, in three lines at most
abbrev pub usage_of : Topic → List ℕ
usage_of topic.All = all_usage
usage_of topic.Encode = encode_usage
usage_of topic.Decode = decode_usage
usage_of topic.Inspect = inspect_usage
usage_of topic.Run = run_usage
usage_of topic.Show = show_usage
usage_of topic.Explain = explain_usage
usage_of topic.Check = check_usage

-- what help says of a command after that
abbrev pub details_of : Topic → List ℕ
details_of topic.All = all_details
details_of topic.Encode = encode_details
details_of topic.Decode = decode_details
details_of topic.Inspect = inspect_details
details_of topic.Run = run_details
details_of topic.Show = show_details
details_of topic.Explain = explain_details
details_of topic.Check = check_details

-- the help on a command
abbrev pub help_text : Topic → List ℕ
help_text t = usage_of t ++ details_of t
